-- Room: `make` gives 12 exactly where the latest-release rule refuses, at the frame that it had taken, and a table exactly where the rule
-- places every frame and the room suffices. No table is longer than the longest, so with room for that one it always suffices.
use mathlib.Core.Path.{◌≡◌, refl, sym, ap, ◌∙◌}
use mathlib.Core.List.{List, map}
use mathlib.Core.Logic.{◌⊎◌, inl, inr, ◌↔◌}
use native.Mathlib.Omega.{arith}
use borrow.Author.Tests.{leb-true, leb-false, le-leb, lt-leb}
use lib.Dec.{leb}
use lib.ListN.{length}
use Prim.Native.Nat.{ℕ, ◌≤◌, ◌<◌}
use Rattle.laws.specs.Res.{Res, ok, refuse, ◌>>=◌, ◌>>◌, unless}
use Rattle.laws.proofs.Res.{
  refuse≢ok,
  ok_injective,
  refuse-number,
  refuse-place,
  bind_case,
  then_case,
  bind_refused,
  then_refused,
  unless-ok,
}
use Rattle.laws.proofs.Orders.{le-or-lt}
use Rattle.laws.proofs.Faults.{unless-refused}
use Rattle.rules.specs.Limits.{most_frames}
use Rattle.rules.specs.Plan.{Plan}
use Rattle.rules.specs.Frames.{Layout, layout}
use Rattle.rules.specs.LatestRelease.{Placed, latest_release}
use Rattle.rules.specs.Table.{FrameRow, alone, table_bytes, longest_table, MadeTable, made_table, table_for, outcome, make}
use Rattle.rules.specs.RuleSteps.{RuleGives}
use Rattle.rules.specs.Obeys.{MakesTable, MakeFault, in_plan, in_layout, in_rule, in_room, RuleRefuses}
use Rattle.rules.proofs.RuleSteps.{rule_exact, rule_twelve}
use Rattle.rules.proofs.RefusalNumbers.{layout-gives, read-gives}
use Rattle.rules.proofs.MadePasses.{make-enough, make-short, make_gave, table-made, rule_well, well_short}
use Rattle.rules.specs.Traffic.{read_in}
use mathlib.Core.Bool.{Bool}

-- ---- table_for

module _ (consumers : Bool) (plan : List ℕ) (room : ℕ) where
  pub table_faults : (n p : ℕ) → table_for consumers plan room ≡ refuse n p → MakeFault consumers plan room n p
  unfolding table_for made_table
  table_faults n p e =
      bind_refused (read_in consumers plan) _ e in_plan λ q is_read e₁.
      bind_refused (layout q) _ e₁ (in_layout is_read) λ l is_laid e₂.
      bind_refused (latest_release l) _ e₂ (in_rule is_read is_laid) λ placed rule e₃.
      let long = length (table_bytes l (map alone placed)) in
      then_refused (unless 13 long (leb long room)) _ e₃
      (λ f.
      let r = unless-refused 13 long (leb long room) n p f in
      in_room is_read is_laid rule (leb-false long room r.0) (sym r.1) (sym r.2))
      (λ _ _ f. refuse≢ok (sym f))

  pub fault_table : (n p : ℕ) → MakeFault consumers plan room n p → table_for consumers plan room ≡ refuse n p
  unfolding table_for made_table
  fault_table n p (in_plan e) = rw e
  fault_table n p (in_layout a e) = rw (a, e)
  fault_table n p (in_rule a b e) = rw (a, b, e)
  fault_table n p (in_room {l = l} {placed = placed} a b c w e f) = rw (a, b, c, lt-leb (length (table_bytes l (map alone placed))) room w, e, f)

  pub table_makes : (n : ℕ) (h : MakesTable consumers plan room n) → table_for consumers plan room ≡ ok (made_table h.laid (map alone h.placed))
  unfolding table_for made_table
  table_makes n h = rw (h.is_read, h.is_laid, h.rule, le-leb (length (table_bytes h.laid (map alone h.placed))) room h.fits)

-- ---- plans that pass 1 to 11

module _ (consumers : Bool) (plan : List ℕ) (room : ℕ) {p : Plan} {l : Layout} (is_read : read_in consumers plan ≡ ok p) (is_laid : layout p ≡ ok l) where
  on : table_for consumers plan room
      ≡ ◌>>=◌ (latest_release l)
      (λ placed. let t = made_table l (map alone placed) in ◌>>◌ (unless 13 (length t.table) (leb (length t.table) room)) (ok t))
  unfolding table_for
  on = rw (is_read, is_laid)

  twelve_says : (pair : ℕ) → table_for consumers plan room ≡ refuse 12 pair → latest_release l ≡ refuse 12 pair
  unfolding made_table
  twelve_says pair e =
      bind_refused (latest_release l) _ (sym on ∙ e) (λ r. r) λ placed rule e₁.
      let long = length (table_bytes l (map alone placed)) in
      then_refused (unless 13 long (leb long room)) _ e₁
      (λ f. let z : 13 ≡ 12 = (unless-refused 13 long (leb long room) 12 pair f).1 in absurd (omega arith))
      (λ _ _ f. refuse≢ok (sym f))

  -- 12 is the rule's own refusal, at the frame that it had taken
  pub room_twelve : (pair : ℕ) → (table_for consumers plan room ≡ refuse 12 pair) ↔ RuleGives l (refuse 12 pair)
  room_twelve pair = (
    λ e. (rule_exact l (refuse 12 pair)).0 (twelve_says pair e),
    λ s. fault_table consumers plan room 12 pair (in_rule is_read is_laid ((rule_exact l (refuse 12 pair)).1 s)),
  )

  made-says : (t : MadeTable) → table_for consumers plan room ≡ ok t
      → (placed : List Placed) × RuleGives l (ok placed) × (length (table_bytes l (map alone placed)) ≤ room) × (made_table l (map alone placed) ≡ t)
  unfolding made_table
  made-says t e =
      bind_case (latest_release l) _ (sym on ∙ e) λ placed rule e₁.
      let long = length (table_bytes l (map alone placed)) in
      then_case (unless 13 long (leb long room)) _ e₁ λ _ fits e₂.
      (placed, (rule_exact l (ok placed)).0 rule, leb-true long room (unless-ok 13 long (leb long room) fits), ok_injective e₂)

  made-is : (t : MadeTable) → (placed : List Placed) × RuleGives l (ok placed) × (length (table_bytes l (map alone placed)) ≤ room) × (made_table l (map alone placed) ≡ t)
      → table_for consumers plan room ≡ ok t
  made-is t h =
      table_makes consumers plan room (length (table_bytes l (map alone h.0)))
      (record {
        read = p;
        is_read = is_read;
        laid = l;
        is_laid = is_laid;
        placed = h.0;
        rule = (rule_exact l (ok h.0)).1 h.1;
        fits = h.2;
        long = refl;
      })
      ∙ ap ok h.3

  -- a table is made exactly where the rule places every frame and the room suffices
  pub room-made : (t : MadeTable)
      → (table_for consumers plan room ≡ ok t) ↔ ((placed : List Placed) × RuleGives l (ok placed) × (length (table_bytes l (map alone placed)) ≤ room) × (made_table l (map alone placed) ≡ t))
  room-made t = (made-says t, made-is t)

-- ---- make

outcome-refused : (r : Res MadeTable) (rows : List FrameRow) (buffer : List ℕ) (n p : ℕ) → (outcome r rows buffer).answer ≡ refuse n p
    → r ≡ refuse n p
outcome-refused (ok t) rows buffer n p e = refuse≢ok (sym e)
outcome-refused (refuse m q) rows buffer n p e = rw (refuse-number e, refuse-place e)

module _ (consumers : Bool) (plan : List ℕ) (rows : List FrameRow) (buffer : List ℕ) where
  makes_only : (n : ℕ) → (make consumers plan rows buffer).answer ≡ ok n → (most_frames ≤ length rows) × MakesTable consumers plan (length buffer) n
  unfolding made_table
  makes_only n e =
      let g = make_gave consumers plan rows buffer n e in
      let m = table-made consumers plan (length buffer) g.table g.made in (
        g.lent,
        record {
          read = m.read;
          is_read = m.is_read;
          laid = m.laid;
          is_laid = m.is_laid;
          placed = m.placed;
          rule = m.rule;
          fits = m.fits;
          long = ap (λ (t : MadeTable). length t.table) m.is ∙ g.long;
        },
      )

  makes_all : (n : ℕ) → (most_frames ≤ length rows) × MakesTable consumers plan (length buffer) n → (make consumers plan rows buffer).answer ≡ ok n
  unfolding made_table
  makes_all n h = rw (make-enough consumers plan rows buffer h.0, table_makes consumers plan (length buffer) n h.1, h.1.long)

  -- `make` gives a table exactly where the plan passes 1 to 11, the rule places every frame and the room suffices
  pub make_exact : (n : ℕ) → ((make consumers plan rows buffer).answer ≡ ok n) ↔ ((most_frames ≤ length rows) × MakesTable consumers plan (length buffer) n)
  make_exact n = (makes_only n, makes_all n)

  -- 19 before all; else the first fault
  abbrev pub MakeRefuses : ℕ → ℕ → Type 0
  MakeRefuses n p = ((length rows < most_frames) × (n ≡ 19) × (p ≡ most_frames)) ⊎ ((most_frames ≤ length rows) × MakeFault consumers plan (length buffer) n p)

  refuses-only : (most_frames ≤ length rows) ⊎ (length rows < most_frames) → (n p : ℕ) → (make consumers plan rows buffer).answer ≡ refuse n p → MakeRefuses n p
  refuses-only (inl h) n p e =
      let r = outcome-refused (table_for consumers plan (length buffer)) rows buffer n p (rw (make-enough consumers plan rows buffer h) at e) in
      inr (h, table_faults consumers plan (length buffer) n p r)
  refuses-only (inr h) n p e =
      let f : refuse 19 most_frames ≡ refuse n p = rw (make-short consumers plan rows buffer h) at e in
      inl (h, sym (refuse-number f), sym (refuse-place f))

  refuses-all : (n p : ℕ) → MakeRefuses n p → (make consumers plan rows buffer).answer ≡ refuse n p
  refuses-all n p (inl h) = rw (make-short consumers plan rows buffer h.0, h.1, h.2)
  refuses-all n p (inr h) = rw (make-enough consumers plan rows buffer h.0, fault_table consumers plan (length buffer) n p h.1)

  pub make-refuses : (n p : ℕ) → ((make consumers plan rows buffer).answer ≡ refuse n p) ↔ MakeRefuses n p
  make-refuses n p = (refuses-only (le-or-lt most_frames (length rows)) n p, refuses-all n p)

  fault_twelve : (pair : ℕ) → MakeFault consumers plan (length buffer) 12 pair → RuleRefuses consumers plan pair
  fault_twelve pair (in_plan e) = absurd (omega (arith, (read-gives consumers plan).number 12 pair e))
  fault_twelve pair (in_layout {q} a e) = absurd (omega (arith, (layout-gives q).number 12 pair e))
  fault_twelve pair (in_rule {q} {l} a b e) = record { read = q; is_read = a; laid = l; is_laid = b; rule = e }
  fault_twelve pair (in_room a b c w e f) = absurd (omega (arith, e))

  twelve_only : (pair : ℕ) → MakeRefuses 12 pair → (most_frames ≤ length rows) × RuleRefuses consumers plan pair
  twelve_only pair (inl h) = absurd (omega (arith, h.1))
  twelve_only pair (inr h) = (h.0, fault_twelve pair h.1)

  -- 12 exactly where the latest-release rule refuses
  pub twelve_exact : (pair : ℕ) → ((make consumers plan rows buffer).answer ≡ refuse 12 pair) ↔ ((most_frames ≤ length rows) × RuleRefuses consumers plan pair)
  twelve_exact pair = (
    λ e. twelve_only pair ((make-refuses 12 pair).0 e),
    λ h. (make-refuses 12 pair).1 (inr (h.0, in_rule h.1.is_read h.1.is_laid h.1.rule)),
  )

  -- ---- how much room is enough

  bytes_most : {q : Plan} {l : Layout} {placed : List Placed} → read_in consumers plan ≡ ok q → layout q ≡ ok l → latest_release l ≡ ok placed
      → length (table_bytes l (map alone placed)) ≤ longest_table
  bytes_most {q} {l} {placed} is_read is_laid rule = well_short consumers plan is_read is_laid (rule_well q l is_laid placed rule)

  -- no table that is made is longer than the longest
  pub made-most : (n : ℕ) → (make consumers plan rows buffer).answer ≡ ok n → n ≤ longest_table
  made-most n e = let m = (makes_only n e).1 in rw (sym m.long) (bytes_most m.is_read m.is_laid m.rule)

  fault_thirteen : (n : ℕ) → MakeFault consumers plan (length buffer) 13 n → (length buffer < n) × (n ≤ longest_table)
  fault_thirteen n (in_plan e) = absurd (omega (arith, (read-gives consumers plan).number 13 n e))
  fault_thirteen n (in_layout {q} a e) = absurd (omega (arith, (layout-gives q).number 13 n e))
  fault_thirteen n (in_rule {q} {l} a b e) = absurd (omega (arith, rule_twelve l 13 n e))
  fault_thirteen n (in_room a b c w e f) = rw f (w, bytes_most a b c)

  thirteen_only : (n : ℕ) → MakeRefuses 13 n → (length buffer < n) × (n ≤ longest_table)
  thirteen_only n (inl h) = absurd (omega (arith, h.1))
  thirteen_only n (inr h) = fault_thirteen n h.1

  -- 13 is given only where less room is lent than the table needs, and none needs more than the longest
  pub thirteen_most : (n : ℕ) → (make consumers plan rows buffer).answer ≡ refuse 13 n → (length buffer < n) × (n ≤ longest_table)
  thirteen_most n e = thirteen_only n ((make-refuses 13 n).0 e)
