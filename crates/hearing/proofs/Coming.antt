-- A history as it comes: byte by byte, and line by line.
use Rattle.std.specs.Prelude.{IfOk, Result, Ok, Err}
use mathlib.Core.Path.{◌≡◌, refl, sym, ap, ◌∙◌}
use mathlib.Core.Bool.{Bool, true, false, cond, not, ◌&&◌, true≢false}
use mathlib.Core.List.{List, [], ◌∷◌, ◌++◌, append-nil, append_assoc}
use native.Mathlib.Nat.{le_antisymm, le-min, min-eq_left, min-eq_right}
use native.Mathlib.Omega.{arith}
use borrow.Author.Tests.{eqb-true, leb-false, leb-true}
use lib.Dec.{eqb, leb}
use lib.ListN.{length, drop, take, length-drop, take-append-drop}
use lib.Seq.{length-take-le, take-add, take_all, take-take}
use Prim.Native.Nat.{ℕ, zero, suc, ◌+◌, ◌-◌, ◌≤◌, ◌<◌, min}
use Rattle.text.specs.Text.{run_on}
use Rattle.text.specs.Lines.{is_other, line_end, one_line}
use Rattle.text.proofs.Runs.{front-taken, is_feedless}
use Rattle.hearing.specs.Heard.{heard_line, unheard}
use Rattle.hearing.specs.Pieces.{Hearing, answered, at_end, hear_on, heard_all, is_stopped, last_heard, silence, with_byte}
use Rattle.hearing.specs.declared.Heard.{Heard}
use Rattle.hearing.specs.declared.Stage.{Stage}
use Rattle.hearing.specs.declared.Stage.TheVariants.{Waits, Plays, Stops}

-- ---- a line and what follows it

-- a line that ends stands in front of its line feed
feed_behind : (x : List ℕ) → length (one_line x) < length x → take (suc (length (one_line x))) x ≡ one_line x ++ (10 ∷ [])
feed_behind [] h = absurd (omega arith)
feed_behind (b ∷ x) h = go (eqb b 10) refl h (λ w. feed_behind x w)
  where
    go : (t : Bool) → eqb b 10 ≡ t → length (run_on (not t) b (one_line x)) < suc (length x)
        → (length (one_line x) < length x → take (suc (length (one_line x))) x ≡ one_line x ++ (10 ∷ []))
        → take (suc (length (run_on (not t) b (one_line x)))) (b ∷ x) ≡ run_on (not t) b (one_line x) ++ (10 ∷ [])
    go true e w more = ap (λ (c : ℕ). c ∷ []) (eqb-true b 10 e)
    go false e w more = ap (λ (l : List ℕ). b ∷ l) (more (omega arith))

-- one that does not is all that is left
none-behind : (x : List ℕ) → length x ≤ length (one_line x) → one_line x ≡ x
none-behind [] h = refl
none-behind (b ∷ x) h = go (eqb b 10) h (λ w. none-behind x w)
  where
    go : (t : Bool) → suc (length x) ≤ length (run_on (not t) b (one_line x)) → (length x ≤ length (one_line x) → one_line x ≡ x)
        → run_on (not t) b (one_line x) ≡ b ∷ x
    go true w more = absurd (omega arith)
    go false w more = ap (λ (l : List ℕ). b ∷ l) (more (omega arith))

-- a line has no line feed in it
feedless : (x : List ℕ) → is_feedless (one_line x) ≡ true
feedless [] = refl
feedless (b ∷ x) = go (eqb b 10) refl (feedless x)
  where
    go : (t : Bool) → eqb b 10 ≡ t → is_feedless (one_line x) ≡ true → is_feedless (run_on (not t) b (one_line x)) ≡ true
    go true e more = refl
    go false e more = rw (e, more)

-- a part that lies within a front
part_within : (at n m : ℕ) (l : List ℕ) → at + n ≤ m → take n (drop at (take m l)) ≡ take n (drop at l)
part_within zero n m l h = take-take n m l (omega arith)
part_within (suc at) n zero l h = absurd (omega arith)
part_within (suc at) n (suc m) [] h = refl
part_within (suc at) n (suc m) (x ∷ l) h = part_within at n m l (omega arith)

-- the part from a place to the end
pub rest_part : (s : List ℕ) (at : ℕ) → take (length s - at) (drop at s) ≡ drop at s
rest_part s at = take_all (length s - at) (drop at s) (rw (length-drop at s) (omega arith))

-- what follows from what holds of a value, where there is one
pub if_ok : {A E : Type 0} (r : Result A E) (P Q : A → Type 0) → ((x : A) → P x → Q x) → IfOk r P → IfOk r Q
if_ok (Ok x) P Q f h = f x h
if_ok (Err e) P Q f h = h

pub at_most : {at came m : ℕ} → m ≡ min came 262144 → at ≤ came → at ≤ 262144 → at ≤ m
at_most {at} {came} {m} e lo hi = rw e (le-min lo hi)

pub none_left : {m end line : ℕ} → end ≡ line → m ≤ end → m ≤ line
none_left e h = omega (arith, e, h)

pub further_by : {came n : ℕ} → came ≤ n → (n ≡ came → ⊥) → came < n
further_by {came} {n} h f = go (leb n came) refl
  where
    go : (b : Bool) → leb n came ≡ b → came < n
    go true e = absurd (f (le_antisymm (leb-true n came e) h))
    go false e = leb-false n came e

-- ---- byte by byte

module _ (plan table : List ℕ) where
  -- a longer text is heard on from where the shorter one ended
  pub heard_on : (a : Hearing) (s t : List ℕ) → hear_on plan table a (s ++ t) ≡ hear_on plan table (hear_on plan table a s) t
  unfolding hear_on
  heard_on a [] t = refl
  heard_on a (b ∷ s) t = heard_on (with_byte plan table a (eqb b 10) b) s t

  -- bytes without a line feed open a line
  pub line-opens : (a : Hearing) (s : List ℕ) → is_feedless s ≡ true
      → hear_on plan table a s ≡ record { lines = a.lines; heard = a.heard; opening = a.opening ++ s }
  unfolding hear_on
  line-opens a [] h = ap (λ (l : List ℕ). record { lines = a.lines; heard = a.heard; opening = l }) (sym (append-nil a.opening))
  line-opens a (b ∷ s) h = go (eqb b 10) h (λ q e. line-opens q s e)
    where
      go : (t : Bool) → (not t && is_feedless s) ≡ true
          → ((q : Hearing) → is_feedless s ≡ true → hear_on plan table q s ≡ record { lines = q.lines; heard = q.heard; opening = q.opening ++ s })
          → hear_on plan table (with_byte plan table a t b) s ≡ record { lines = a.lines; heard = a.heard; opening = a.opening ++ (b ∷ s) }
      go true e more = absurd (true≢false (sym e))
      go false e more =
          more (with_byte plan table a false b) e
          ∙ ap (λ (l : List ℕ). record { lines = a.lines; heard = a.heard; opening = l }) (append_assoc a.opening (b ∷ []) s)

  -- and the line feed ends it
  line-ends : (k : ℕ) (h : Heard) (line : List ℕ) → is_feedless line ≡ true
      → hear_on plan table (record { lines = k; heard = h; opening = [] }) (line ++ (10 ∷ []))
      ≡ record { lines = suc k; heard = heard_line plan table (suc k) h line; opening = [] }
  unfolding hear_on
  line-ends k h line e =
      heard_on (record { lines = k; heard = h; opening = [] }) line (10 ∷ [])
      ∙ ap (λ (a : Hearing). hear_on plan table a (10 ∷ [])) (line-opens (record { lines = k; heard = h; opening = [] }) line e)

  -- nothing is heard behind a line that stops the history
  pub stays : (k : ℕ) (h : Heard) (s : List ℕ) (x : Stage) → h.stage ≡ x → is_stopped x ≡ true → heard_line plan table k h s ≡ h
  unfolding heard_line
  stays k h s Waits e q = absurd (true≢false (sym q))
  stays k h s (Plays begun) e q = absurd (true≢false (sym q))
  stays k h s (Stops l) e q = rw e

  still : (a : Hearing) (s : List ℕ) → is_stopped a.heard.stage ≡ true → (hear_on plan table a s).heard ≡ a.heard
  unfolding hear_on
  still a [] e = refl
  still a (b ∷ s) e = go (eqb b 10) (λ q h. still q s h)
    where
      go : (t : Bool) → ((q : Hearing) → is_stopped q.heard.stage ≡ true → (hear_on plan table q s).heard ≡ q.heard)
          → (hear_on plan table (with_byte plan table a t b) s).heard ≡ a.heard
      go true more =
          let same : heard_line plan table (suc a.lines) a.heard a.opening ≡ a.heard =
          stays (suc a.lines) a.heard a.opening a.heard.stage refl e in
          more (with_byte plan table a true b) (ap (λ (h : Heard). is_stopped h.stage) same ∙ e) ∙ same
      go false more = more (with_byte plan table a false b) e

  last-still : (lines : ℕ) (h : Heard) (s : List ℕ) → is_stopped h.stage ≡ true → last_heard plan table lines h s ≡ h
  last-still lines h [] e = refl
  last-still lines h (b ∷ s) e = stays (suc lines) h (b ∷ s) h.stage refl e

  pub last_none : (lines : ℕ) (h : Heard) (s : List ℕ) → length s ≡ 0 → h ≡ last_heard plan table lines h s
  last_none lines h [] e = refl
  last_none lines h (b ∷ s) e = absurd (omega arith)

  pub last_some : (lines : ℕ) (h : Heard) (s : List ℕ) {next : Heard} → (length s ≡ 0 → ⊥) → next ≡ heard_line plan table (lines + 1) h s
      → next ≡ last_heard plan table lines h s
  last_some lines h [] f e = absurd (f refl)
  last_some lines h (b ∷ s) f e = let n : lines + 1 ≡ suc lines = omega arith in rw n at e

  -- ---- between two pieces

  -- the bytes in front of a place are whole lines, and this was heard of them
  pub record Between (buf : List ℕ) (lines : ℕ) (h : Heard) (at : ℕ) : Type 0 where
    pub few : lines ≤ at
    pub same : hear_on plan table silence (take at buf) ≡ record { lines = lines; heard = h; opening = [] }

  pub between_none : {buf : List ℕ} {h : Heard} → h ≡ unheard → Between buf 0 h 0
  unfolding hear_on
  between_none e = record { few = omega arith; same = rw e }

  -- one piece more, behind what has come
  pub between-read : {buf : List ℕ} {lines : ℕ} {h : Heard} {at : ℕ} → Between buf lines h at → (more : List ℕ) (came : ℕ) → at ≤ came → take came more ≡ take came buf
      → Between more lines h at
  between-read {buf} {lines} {h} {at} g more came lo e =
      let front : take at more ≡ take at buf = sym (take-take at came more lo) ∙ ap (take at) e ∙ take-take at came buf lo in
      record { few = g.few; same = ap (hear_on plan table silence) front ∙ g.same }

  module _ {buf : List ℕ} {lines : ℕ} {h : Heard} {at m : ℕ} (g : Between buf lines h at) (lo : at ≤ m) (hi : m ≤ length buf) where
    front_long : length (take m buf) ≡ m
    front_long = length-take-le m buf hi

    left-long : length (drop at (take m buf)) ≡ m - at
    left-long = length-drop at (take m buf) ∙ ap (λ (k : ℕ). k - at) front_long

    -- the bytes up to m, heard on from the place
    heard-to : hear_on plan table silence (take m buf) ≡ hear_on plan table (record { lines = lines; heard = h; opening = [] }) (drop at (take m buf))
    heard-to =
        ap (hear_on plan table silence) (sym (take-append-drop at (take m buf)))
        ∙ heard_on silence (take at (take m buf)) (drop at (take m buf))
        ∙ ap (λ (a : Hearing). hear_on plan table a (drop at (take m buf))) (ap (hear_on plan table silence) (take-take at m buf lo) ∙ g.same)

    -- one line more
    module _ {end : ℕ} (ended : end ≡ line_end (take m buf) at) (whole : end < m) where
      line-long : length (one_line (drop at (take m buf))) ≡ end - at
      unfolding line_end
      line-long = omega (arith, ended)

      line-is : take (end - at) (drop at buf) ≡ one_line (drop at (take m buf))
      unfolding line_end
      line-is =
          sym (part_within at (end - at) m buf (omega (arith, ended)))
          ∙ ap (λ (k : ℕ). take k (drop at (take m buf))) (sym line-long)
          ∙ front-taken (is_other 10) (drop at (take m buf))

      with-line : take (end + 1) buf ≡ take at buf ++ (one_line (drop at (take m buf)) ++ (10 ∷ []))
      unfolding line_end
      with-line =
          let n : end + 1 ≡ at + suc (end - at) = omega (arith, ended) in
          let short : length (one_line (drop at (take m buf))) < length (drop at (take m buf)) = omega (arith, ended, line-long, left-long) in
          ap (λ (k : ℕ). take k buf) n
          ∙ take-add at (suc (end - at)) buf
          ∙ ap (λ (l : List ℕ). take at buf ++ l)
          (sym (part_within at (suc (end - at)) m buf (omega (arith, ended)))
          ∙ ap (λ (k : ℕ). take (suc k) (drop at (take m buf))) (sym line-long)
          ∙ feed_behind (drop at (take m buf)) short)

      pub between_turn : {next : Heard} {line : List ℕ} → line ≡ take (end - at) (drop at buf) → next ≡ heard_line plan table (lines + 1) h line
          → Between buf (lines + 1) next (end + 1)
      unfolding line_end
      between_turn {next} {line} l e =
          let suced : lines + 1 ≡ suc lines = omega arith in
          let heard-is : heard_line plan table (suc lines) h (one_line (drop at (take m buf))) ≡ next =
          sym (e ∙ rw suced (ap (heard_line plan table (suc lines) h) (l ∙ line-is))) in
          record {
            few = omega (arith, ended, g.few);
            same =
                ap (hear_on plan table silence) with-line
                ∙ heard_on silence (take at buf) (one_line (drop at (take m buf)) ++ (10 ∷ []))
                ∙ ap (λ (a : Hearing). hear_on plan table a (one_line (drop at (take m buf)) ++ (10 ∷ []))) g.same
                ∙ line-ends lines h (one_line (drop at (take m buf))) (feedless (drop at (take m buf)))
                ∙ rw (suced, heard-is);
          }

    -- no line more
    module _ (none : m ≤ line_end (take m buf) at) where
      opens : hear_on plan table silence (take m buf) ≡ record { lines = lines; heard = h; opening = drop at (take m buf) }
      unfolding line_end
      opens =
          let all : one_line (drop at (take m buf)) ≡ drop at (take m buf) = none-behind (drop at (take m buf)) (omega (arith, none, left-long)) in
          heard-to ∙ line-opens (record { lines = lines; heard = h; opening = [] }) (drop at (take m buf)) (rw all at (feedless (drop at (take m buf))))

  -- the end of the input: the last line is heard, unless the history is too long
  pub between-end : {buf : List ℕ} {lines : ℕ} {h : Heard} {at m : ℕ} → Between buf lines h at → (n : ℕ) → n ≤ length buf → m ≡ min n 262144 → at ≤ m
      → m ≤ line_end (take m buf) at
      → cond (leb (length (take n buf)) 262144) (last_heard plan table lines h (drop at (take n buf))) h ≡ answered plan table (take n buf)
  unfolding answered heard_all
  between-end {buf} {lines} {h} {at} {m} g n long e lo none = go (leb n 262144) refl
    where
      size : length (take n buf) ≡ n
      size = length-take-le n buf long

      go : (b : Bool) → leb n 262144 ≡ b
          → cond (leb (length (take n buf)) 262144) (last_heard plan table lines h (drop at (take n buf))) h
          ≡ cond (leb (length (take n buf)) 262144) (at_end plan table (hear_on plan table silence (take n buf))) (hear_on plan table silence (take 262144 (take n buf))).heard
      go true q =
          let same : m ≡ n = e ∙ min-eq_left (leb-true n 262144 q) in
          let all : hear_on plan table silence (take n buf) ≡ record { lines = lines; heard = h; opening = drop at (take n buf) } =
          opens g (rw same at lo) long (rw same at none) in
          rw (size, q, all)
      go false q =
          let w : 262144 < n = leb-false n 262144 q in
          let same : m ≡ 262144 = e ∙ min-eq_right (omega arith) in
          let all : hear_on plan table silence (take 262144 buf) ≡ record { lines = lines; heard = h; opening = drop at (take 262144 buf) } =
          opens g (rw same at lo) (omega arith) (rw same at none) in
          rw (size, q, take-take 262144 n buf (omega arith), all)

  pub between_done : {buf : List ℕ} {lines : ℕ} {h : Heard} {at m : ℕ} → Between buf lines h at → (more : List ℕ) (came : ℕ) → take came more ≡ take came buf
      → came ≤ length buf → came ≤ length more → m ≡ min came 262144 → at ≤ m → m ≤ line_end (take m buf) at → {n : ℕ} → n ≡ length (take came more)
      → {last : Heard} → last ≡ cond (leb (length (take came more)) 262144) (last_heard plan table lines h (drop at (take came more))) h
      → last ≡ answered plan table (take n more)
  between_done g more came same long room e lo none {n} size told =
      let came-is : n ≡ came = size ∙ length-take-le came more room in
      (rw same at told) ∙ between-end g came long e lo none ∙ ap (answered plan table) (sym same ∙ ap (λ (k : ℕ). take k more) (sym came-is))

  -- a line that stops the history
  pub between-stop : {buf : List ℕ} {lines : ℕ} {h : Heard} {at : ℕ} → Between buf lines h at → (n : ℕ) → n ≤ length buf → at ≤ n → at ≤ 262144
      → is_stopped h.stage ≡ true → h ≡ answered plan table (take n buf)
  unfolding answered heard_all
  between-stop {buf} {lines} {h} {at} g n long lo hi e = go (leb n 262144) refl
    where
      heard-stays : (m : ℕ) → m ≤ length buf → at ≤ m → (hear_on plan table silence (take m buf)).heard ≡ h
      heard-stays m w v = ap (λ (a : Hearing). a.heard) (heard-to g v w) ∙ still (record { lines = lines; heard = h; opening = [] }) (drop at (take m buf)) e

      size : length (take n buf) ≡ n
      size = length-take-le n buf long

      go : (b : Bool) → leb n 262144 ≡ b
          → h ≡ cond (leb (length (take n buf)) 262144) (at_end plan table (hear_on plan table silence (take n buf))) (hear_on plan table silence (take 262144 (take n buf))).heard
      go true q =
          let a = hear_on plan table silence (take n buf) in
          let same : a.heard ≡ h = heard-stays n long lo in
          rw (size, q) (sym (last-still a.lines a.heard a.opening (ap (λ (x : Heard). is_stopped x.stage) same ∙ e) ∙ same))
      go false q =
          let w : 262144 < n = leb-false n 262144 q in
          rw (size, q, take-take 262144 n buf (omega arith)) (sym (heard-stays 262144 (omega arith) hi))
