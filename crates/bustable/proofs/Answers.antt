-- The three answers, each with its status: the line for a long input, the table, the line for a refusal.
use mathlib.Core.List.{List}
use mathlib.Core.Path.{◌≡◌, refl, sym, ap, ap₂, subst, ◌∙◌}
use native.Mathlib.Omega.{arith}
use lib.ListN.{length}
use lib.Seq.{sets}
use borrow.Author.Tests.{le-leb, lt-leb}
use Prim.Native.Nat.{ℕ, ◌≤◌, ◌<◌}
use Rattle.rules.specs.Limits.{most_frames}
use Rattle.io.specs.Counts.{IsPrefixLen}
use Rattle.laws.specs.Res.{Res, ok, refuse}
use Rattle.laws.proofs.Res.{refuse≢ok, ok_injective, refuse-number, refuse-place}
use Rattle.rules.specs.Table.{MadeTable, made_table, table_for}
use Rattle.rules.proofs.MadePasses.{table-made}
use Rattle.answers.specs.declared.Refusal.{Refusal}
use Rattle.answers.specs.Refusals.{number_of, place_of}
use Rattle.std.specs.Prelude.{Ok, Err}
use Rattle.maker.specs.Making.{lent_for, is_edition, for_consumers}
use Rattle.linetable.specs.Making.{Making, Makes, heard_made, length_of, buffer_left}
use Rattle.linetable.proofs.Ways.{table-stored}
use Rattle.text.specs.Text.{is_short, refused_line, too_long_line}
use Rattle.text.proofs.Decimals.{refused-line-most}
use Rattle.text.proofs.Fronts.{Front, front-counts}
use Rattle.manners.specs.Status.{status_of}
use Rattle.bustable.specs.Answer.{written, answer_for, status_for}
use mathlib.Core.Bool.{Bool, true}

pub too_long : (consumers : Bool) (room : ℕ) (input : List ℕ) → 65536 < length input → answer_for consumers room input ≡ too_long_line
unfolding answer_for is_short
too_long consumers room input h = rw (lt-leb (length input) 65536 h)

not_too_long : (consumers : Bool) (room : ℕ) (input : List ℕ) → length input ≤ 65536 → answer_for consumers room input ≡ written (table_for consumers input room)
unfolding answer_for is_short
not_too_long consumers room input h = rw (le-leb (length input) 65536 h)

long_status : (consumers : Bool) (room : ℕ) (input : List ℕ) → 65536 < length input → 1 ≡ status_for consumers room input
unfolding status_for is_short
long_status consumers room input h = rw (lt-leb (length input) 65536 h)

short_status : (consumers : Bool) (room : ℕ) (input : List ℕ) → length input ≤ 65536 → status_for consumers room input ≡ status_of (table_for consumers input room)
unfolding status_for is_short
short_status consumers room input h = rw (le-leb (length input) 65536 h)

-- a table has room in what was lent for it
table_fits : (consumers : Bool) (plan : List ℕ) (room : ℕ) (t : MadeTable) → table_for consumers plan room ≡ ok t → length t.table ≤ room
unfolding made_table
table_fits consumers plan room t e =
    let m = table-made consumers plan room t e in
    subst (λ (u : MadeTable). length u.table ≤ room) m.is m.fits

-- ---- the ways out

-- what `respond` says of its result
abbrev pub Responds : Bool → List ℕ → List ℕ → List ℕ → ℕ → ℕ → Type 0
Responds consumers plan old out n s = Front (answer_for consumers (length old) plan) old out n × ((s ≡ status_for consumers (length old) plan) × (53 ≤ length old → IsPrefixLen n out))

-- what `done` and `refused` say of the response: its length and its status
abbrev Says : ℕ → ℕ → ℕ → ℕ → Type 0
Says l t n s = (l ≡ n) × (t ≡ s)

pub long_response : (consumers : Bool) (plan old out : List ℕ) (n l t : ℕ) → 65536 < length plan → Front too_long_line old out n → Says l t n 1 → Responds consumers plan old out l t
unfolding too_long_line
long_response consumers plan old out n l t h a says =
    rw (says.0, says.1)
    (rw (too_long consumers (length old) plan h) a, (long_status consumers (length old) plan h, λ room. front-counts too_long_line old out n a (omega arith)))

-- with 1,024 rows lent and a known edition, 19 and 62 do not apply
rows-lent : (edition : ℕ) → is_edition edition ≡ true → (plan : List ℕ) (room : ℕ)
    → lent_for edition plan most_frames room ≡ table_for (for_consumers edition) plan room
unfolding lent_for
rows-lent edition known plan room = rw known

module _ (consumers : Bool) (edition : ℕ) (is : (is_edition edition ≡ true) × (for_consumers edition ≡ consumers)) (plan old out : List ℕ) (r : Making)
    (short : length plan ≤ 65536) (makes : Makes r old out (lent_for edition plan most_frames (length old))) where
  makes_table : Makes r old out (table_for consumers plan (length old))
  makes_table =
      subst (Makes r old out)
      (rows-lent edition is.0 plan (length old) ∙ ap (λ (c : Bool). table_for c plan (length old)) is.1) makes

  pub made_response : (n l t : ℕ) → r.answer ≡ Ok n → Says l t n 0 → Responds consumers plan old out l t
  made_response n l t e says =
      rw (says.0, says.1, not_too_long consumers (length old) plan short, short_status consumers (length old) plan short)
      (go (table_for consumers plan (length old)) refl (sym (ap heard_made e) ∙ makes_table.answered) makes_table.written)
    where
      go : (x : Res MadeTable) → table_for consumers plan (length old) ≡ x → ok n ≡ length_of x → out ≡ buffer_left x old
          → Front (written x) old out n × ((0 ≡ status_of x) × (53 ≤ length old → IsPrefixLen n out))
      go (ok t) is_made e q =
          let fits : length t.table ≤ length old = table_fits consumers plan (length old) t is_made in
          let a : Front t.table old out n = (q ∙ sym (table-stored t.table old fits), ok_injective e) in
          (a, (refl, λ _. front-counts t.table old out n a fits))
      go (refuse m p) is_made e q = refuse≢ok (sym e)

  pub refused_response : (x : Refusal) (number place n l t : ℕ) (line : List ℕ) → r.answer ≡ Err x → number ≡ number_of x → place ≡ place_of x
      → number < 18446744073709551616 → place < 18446744073709551616
      → (line ≡ sets out 0 (refused_line number place)) × (n ≡ length (refused_line number place)) → Says l t n 1 → Responds consumers plan old line l t
  refused_response x number place n l t line e c d h k a says =
      rw (says.0, says.1, not_too_long consumers (length old) plan short, short_status consumers (length old) plan short)
      (go (table_for consumers plan (length old)) (ap₂ refuse c d ∙ sym (ap heard_made e) ∙ makes_table.answered) makes_table.written)
    where
      go : (x : Res MadeTable) → refuse number place ≡ length_of x → out ≡ buffer_left x old
          → Front (written x) old line n × ((1 ≡ status_of x) × (53 ≤ length old → IsPrefixLen n line))
      go (ok t) e q = refuse≢ok e
      go (refuse m r) e q =
          let same : refused_line number place ≡ refused_line m r = ap₂ refused_line (refuse-number e) (refuse-place e) in
          let b : Front (refused_line number place) old line n = (a.0 ∙ ap (λ (l : List ℕ). sets l 0 (refused_line number place)) q, a.1) in (
            rw (← same) b,
            (
              refl,
              λ room.
                  let few : length (refused_line number place) ≤ 53 = refused-line-most number place h k in
                  front-counts (refused_line number place) old line n b (omega arith),
            ),
          )
