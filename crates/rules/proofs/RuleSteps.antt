-- RuleSteps: the definition of the latest-release rule takes at each step exactly what the rule's sentences (specs/RuleSteps) ask for, and
-- refuses exactly where they leave no place. So its outcome is that of a run of such steps, and no second outcome has one.
use mathlib.Core.Path.{◌≡◌, refl, sym, ap, ◌∙◌, subst}
use mathlib.Core.Bool.{Bool, true, false, cond, ◌&&◌, ◌||◌}
use mathlib.Core.List.Memᴰ
use mathlib.Core.List.{List, [], ◌∷◌, Memᴰ}
use mathlib.Core.Logic.{◌⊎◌, inl, inr, ◌↔◌}
use native.Mathlib.Nat.{not-suc-le-zero}
use native.Mathlib.Omega.{arith}
use lib.Dec.{eqb, leb, ltb}
use lib.ListN.{length}
use borrow.Author.Tests.{leb-true, leb-false, ltb-true, ltb-false, eqb-true, eq-eqb, ne_eqb, le-leb}
use Prim.Native.Nat.{ℕ, zero, suc, ◌-◌, ◌≤◌, ◌<◌, max, zero-le, suc-le-suc}
use Rattle.laws.specs.Res.{Res, refuse}
use Rattle.laws.specs.Lists.{keep}
use Rattle.laws.proofs.Lists.{tested, both_left, both_right, neither_left, neither_right, keep_yes, keep_no}
use Rattle.laws.proofs.Res.{refuse≢ok, refuse-number}
use Rattle.laws.proofs.Divisors.{down-below, down-multiple, down-greatest}
use Rattle.laws.proofs.Members.{
  All,
  empty,
  also,
  Pairs,
  alone,
  before,
  all_head,
  all_tail,
  all_member,
  all_weaker,
  keep_all,
  keep-passes,
  keep_member,
  keep-from,
  pairs-keep,
}
use Rattle.rules.specs.Frames.{Pair, Layout}
use Rattle.rules.specs.LatestRelease.{
  Numbered,
  numbered_from,
  Placed,
  greatest_deadline,
  with_deadline,
  is_candidate,
  is_later,
  latest_of,
  latest,
  is_other,
  lowered,
  taken,
  start_of,
  fits,
  place,
  time_alone,
  latest_release,
}
use Rattle.rules.specs.RuleSteps.{
  IsGreatestDeadline,
  IsLowered,
  IsCandidate,
  IsTaken,
  IsStart,
  NoPlace,
  no_start,
  before_release,
  before_floor,
  Without,
  here,
  behind,
  Places,
  Sticks,
  Steps,
  none_left,
  places,
  sticks,
  RuleGives,
}

-- x has another number than y
abbrev pub Other : Numbered → Numbered → Type 0
Other x y = x.number ≡ y.number → ⊥

-- ---- the greatest deadline left

pub greatest-above : {y : Numbered} {l : List Numbered} → Memᴰ y l → y.pair.deadline ≤ greatest_deadline l
unfolding greatest_deadline with_deadline
greatest-above {y} (Memᴰ.head {x = x} e) =
    let d : y.pair.deadline ≡ x.pair.deadline = ap (λ (z : Numbered). z.pair.deadline) e in
    omega arith
greatest-above (Memᴰ.tail m) = omega (arith, greatest-above m)

greatest-step : (x : Numbered) (xs : List Numbered) → greatest_deadline (x ∷ xs) ≡ max x.pair.deadline (greatest_deadline xs)
unfolding greatest_deadline with_deadline
greatest-step x xs = refl

greatest-none : greatest_deadline [] ≡ 0
unfolding greatest_deadline
greatest-none = refl

-- one of two or more
greater : (x y : Numbered) (ys : List Numbered) → IsGreatestDeadline (y ∷ ys) (greatest_deadline (y ∷ ys)) → (b : Bool)
    → leb (greatest_deadline (y ∷ ys)) x.pair.deadline ≡ b → IsGreatestDeadline (x ∷ y ∷ ys) (greatest_deadline (x ∷ y ∷ ys))
greater x y ys g true e =
    let above : greatest_deadline (y ∷ ys) ≤ x.pair.deadline = leb-true (greatest_deadline (y ∷ ys)) x.pair.deadline e in
    record {
      one = x;
      among = Memᴰ.head refl;
      has = omega (arith, greatest-step x (y ∷ ys));
      greatest = λ z m. greatest-above m;
    }
greater x y ys g false e =
    let below : x.pair.deadline < greatest_deadline (y ∷ ys) = leb-false (greatest_deadline (y ∷ ys)) x.pair.deadline e in
    record {
      one = g.one;
      among = Memᴰ.tail g.among;
      has = omega (arith, g.has, greatest-step x (y ∷ ys));
      greatest = λ z m. greatest-above m;
    }

greatest_of : (x : Numbered) (xs : List Numbered) → IsGreatestDeadline (x ∷ xs) (greatest_deadline (x ∷ xs))
greatest_of x [] =
    record { one = x; among = Memᴰ.head refl; has = omega (arith, greatest-step x [], greatest-none); greatest = λ z m. greatest-above m }
greatest_of x (y ∷ ys) = greater x y ys (greatest_of y ys) (leb (greatest_deadline (y ∷ ys)) x.pair.deadline) refl

greatest_unique : {left : List Numbered} {d c : ℕ} → IsGreatestDeadline left d → IsGreatestDeadline left c → d ≡ c
greatest_unique g h =
    omega (arith, g.greatest h.one h.among, h.greatest g.one g.among, g.has, h.has)

lowered_unique : {e end stop : ℕ} {left : List Numbered} → IsLowered e left end → IsLowered e left stop → end ≡ stop
lowered_unique a b = omega (arith, a.smaller, b.smaller, greatest_unique a.is_greatest b.is_greatest)

-- the frame with the greatest deadline is a candidate
candidate_of : {e end : ℕ} {left : List Numbered} (h : IsLowered e left end) → IsCandidate end left h.is_greatest.one
candidate_of h = record { among = h.is_greatest.among; in_time = omega (arith, h.smaller, h.is_greatest.has) }

-- ---- the frame taken

-- y is not later than x: by release, then by number
record NotAfter (y x : Numbered) : Type 0 where
  release : y.pair.release ≤ x.pair.release
  number : y.pair.release ≡ x.pair.release → y.number ≤ x.number

same_after : (x : Numbered) → NotAfter x x
same_after x = record { release = omega arith; number = λ e. omega arith }

then_after : {z y x : Numbered} → NotAfter z y → NotAfter y x → NotAfter z x
then_after {z} {y} {x} a b =
    record {
      release = omega (arith, a.release, b.release);
      number =
          λ e.
          let zy : z.pair.release ≡ y.pair.release = omega (arith, a.release, b.release) in
          let yx : y.pair.release ≡ x.pair.release = omega arith in
          omega (arith, a.number zy, b.number yx);
    }

later-after : (x y : Numbered) → is_later x y ≡ true → NotAfter y x
unfolding is_later
later-after x y h = go (ltb y.pair.release x.pair.release) refl h
  where
    go : (b : Bool) → ltb y.pair.release x.pair.release ≡ b
        → (b || (eqb y.pair.release x.pair.release && ltb y.number x.number)) ≡ true → NotAfter y x
    go true e h =
        let less : y.pair.release < x.pair.release = ltb-true y.pair.release x.pair.release e in
        record { release = omega arith; number = λ q. absurd (omega arith) }
    go false e h =
        let equal = eqb y.pair.release x.pair.release in
        let same : y.pair.release ≡ x.pair.release =
        eqb-true y.pair.release x.pair.release (both_left equal (ltb y.number x.number) h) in
        let less : y.number < x.number = ltb-true y.number x.number (both_right equal (ltb y.number x.number) h) in
        record { release = omega arith; number = λ q. omega arith }

else_after : (x y : Numbered) → is_later x y ≡ false → NotAfter x y
unfolding is_later
else_after x y h =
    let less = ltb y.pair.release x.pair.release in
    let tie = eqb y.pair.release x.pair.release && ltb y.number x.number in
    record {
      release = ltb-false y.pair.release x.pair.release (neither_left less tie h);
      number =
          λ q.
          let below : ltb y.number x.number ≡ false =
          rw (eq-eqb y.pair.release x.pair.release (sym q)) at (neither_right less tie h) in
          ltb-false y.number x.number below;
    }

picked : (b : Bool) (x y : Numbered) → is_later y x ≡ b → NotAfter x (cond b y x) × NotAfter y (cond b y x)
picked true x y e = (later-after y x e, same_after y)
picked false x y e = (same_after x, else_after y x e)

latest_of-after : (x : Numbered) (l : List Numbered) → All (λ y. NotAfter y (latest_of x l)) (x ∷ l)
unfolding latest_of
latest_of-after x [] = also (same_after x) empty
latest_of-after x (y ∷ l) =
    let rest = latest_of-after (cond (is_later y x) y x) l in
    let p = picked (is_later y x) x y refl in
    also (then_after p.0 (all_head rest)) (also (then_after p.1 (all_head rest)) (all_tail rest))

latest-after : (l : List Numbered) → All (λ y. NotAfter y (latest l)) l
latest-after [] = empty
latest-after (x ∷ l) = latest_of-after x l

cond_either : (b : Bool) (x y : Numbered) (l : List Numbered) → Memᴰ (latest_of (cond b y x) l) (cond b y x ∷ l)
    → Memᴰ (latest_of (cond b y x) l) (x ∷ y ∷ l)
cond_either true x y l (Memᴰ.head e) = Memᴰ.tail (Memᴰ.head e)
cond_either true x y l (Memᴰ.tail m) = Memᴰ.tail (Memᴰ.tail m)
cond_either false x y l (Memᴰ.head e) = Memᴰ.head e
cond_either false x y l (Memᴰ.tail m) = Memᴰ.tail (Memᴰ.tail m)

latest_of-among : (x : Numbered) (l : List Numbered) → Memᴰ (latest_of x l) (x ∷ l)
unfolding latest_of
latest_of-among x [] = Memᴰ.head refl
latest_of-among x (y ∷ l) = cond_either (is_later y x) x y l (latest_of-among (cond (is_later y x) y x) l)

latest-among : (x : Numbered) (l : List Numbered) → Memᴰ x l → Memᴰ (latest l) l
latest-among x [] m = absurd (Memᴰ.not-nil m)
latest-among x (y ∷ l) m = latest_of-among y l

-- ---- numbers tell frames apart

same_of_number : {x y : Numbered} {l : List Numbered} → Pairs Other l → Memᴰ x l → Memᴰ y l → x.number ≡ y.number → x ≡ y
same_of_number (before a r) (Memᴰ.head e) (Memᴰ.head f) q = e ∙ sym f
same_of_number (before a r) (Memᴰ.head e) (Memᴰ.tail m) q =
    absurd (all_member a m (ap (λ (z : Numbered). z.number) (sym e) ∙ q))
same_of_number (before a r) (Memᴰ.tail m) (Memᴰ.head f) q =
    absurd (all_member a m (ap (λ (z : Numbered). z.number) (sym f) ∙ sym q))
same_of_number (before a r) (Memᴰ.tail m) (Memᴰ.tail n) q = same_of_number r m n q
same_of_number {y = y} alone x8 _ q = elim x8 [ ]

taken_unique : {end : ℕ} {left : List Numbered} {x y : Numbered} → Pairs Other left → IsTaken end left x → IsTaken end left y → x ≡ y
taken_unique {x = x} {y = y} apart a b =
    let release : x.pair.release ≡ y.pair.release = omega (arith, a.latest y b.candidate, b.latest x a.candidate) in
    let number : x.number ≡ y.number = omega (arith, a.larger y b.candidate (sym release), b.larger x a.candidate release) in
    same_of_number apart a.candidate.among b.candidate.among number

same_number : (x y : Numbered) → x ≡ y → is_other x.number y ≡ false
unfolding is_other
same_number x y e = rw (eq-eqb y.number x.number (sym (ap (λ (z : Numbered). z.number) e)))

other-number : (x y z : Numbered) → x ≡ y → Other y z → is_other x.number z ≡ true
unfolding is_other
other-number x y z e o =
    rw (ne_eqb z.number x.number (λ q. o (ap (λ (v : Numbered). v.number) (sym e) ∙ sym q)))

-- ---- what is left without it

without_member : {x : Numbered} {left rest : List Numbered} → Without x left rest → Memᴰ x left
without_member (here e q) = Memᴰ.head e
without_member (behind w) = Memᴰ.tail (without_member w)

pub without_length : {x : Numbered} {left rest : List Numbered} → Without x left rest → length left ≡ suc (length rest)
without_length (here e q) = ap (λ (l : List Numbered). suc (length l)) q
without_length (behind w) = ap suc (without_length w)

pub without_is : {x : Numbered} {left rest : List Numbered} → Pairs Other left → Without x left rest → keep (is_other x.number) left ≡ rest
without_is {x} (before a r) (here {y = y} {left = l} e q) =
    keep_no (is_other x.number) y l (same_number x y e)
    ∙ keep_all (is_other x.number) (all_weaker (λ z o. other-number x y z e o) a) ∙ q
without_is {x} (before a r) (behind {y = y} {left = l} w) =
    let o : is_other x.number y ≡ true = other-number x x y refl (λ q. all_member a (without_member w) (sym q)) in
    keep_yes (is_other x.number) y l o ∙ ap (λ (m : List Numbered). y ∷ m) (without_is r w)
without_is {x = x} {rest = rest} alone x4 = elim x4 [ ]

without_some : {x : Numbered} {left : List Numbered} → Memᴰ x left → (rest : List Numbered) × Without x left rest
without_some (Memᴰ.head {xs = l} e) = (l, here e refl)
without_some (Memᴰ.tail {x = y} m) = let w = without_some m in (y ∷ w.0, behind w.1)

without_of : {x : Numbered} {left : List Numbered} → Pairs Other left → Memᴰ x left → Without x left (keep (is_other x.number) left)
without_of {x} {left} apart m =
    let w = without_some m in
    subst (Without x left) (sym (without_is apart w.1)) w.1

-- ---- the steps

module _ (resolution gap floor : ℕ) (sending : Pair → ℕ) where
  abbrev taken_at : ℕ → List Numbered → Numbered
  taken_at = taken resolution gap floor sending

  abbrev start_at : ℕ → Pair → ℕ
  start_at = start_of resolution gap floor sending

  abbrev fits_at : ℕ → Pair → Bool
  fits_at = fits resolution gap floor sending

  abbrev placing : ℕ → ℕ → List Numbered → List Placed → Res (List Placed)
  placing = place resolution gap floor sending

  lowered_of : (e : ℕ) (left : List Numbered) → 0 < length left → IsLowered e left (lowered resolution gap floor sending e left)
  unfolding lowered
  lowered_of e [] h = absurd (not-suc-le-zero h)
  lowered_of e (x ∷ xs) h = record { deadline = greatest_deadline (x ∷ xs); is_greatest = greatest_of x xs; smaller = refl }

  taken-of : {end : ℕ} {left : List Numbered} {x : Numbered} → IsCandidate end left x → IsTaken end left (taken_at end left)
  unfolding taken is_candidate
  taken-of {end} {left} {x} c =
      let fit = is_candidate end in
      let kept : (y : Numbered) → IsCandidate end left y → Memᴰ y (keep fit left) =
      λ y d. keep_member fit (le-leb end y.pair.deadline d.in_time) d.among in
      let found = latest-among x (keep fit left) (kept x c) in
      record {
        candidate =
            record {
              among = keep-from fit left found;
              in_time = leb-true end (taken_at end left).pair.deadline (all_member (keep-passes fit left) found);
            };
        latest = λ y d. (all_member (latest-after (keep fit left)) (kept y d)).release;
        larger = λ y d. (all_member (latest-after (keep fit left)) (kept y d)).number;
      }

  start-of : (end : ℕ) (f : Pair) → sending f ≤ end → IsStart resolution (sending f) end (start_at end f)
  unfolding start_of
  start-of end f h =
      record {
        multiple = down-multiple resolution (end - sending f);
        stops = omega (arith, down-below resolution (end - sending f));
        greatest = λ m d w. down-greatest resolution (end - sending f) m d (omega arith);
      }

  start_unique : {time end s t : ℕ} → IsStart resolution time end s → IsStart resolution time end t → s ≡ t
  start_unique {s = s} {t = t} a b = omega (arith, a.greatest t b.multiple b.stops, b.greatest s a.multiple a.stops)

  -- ---- where a frame fits

  record Fits (end : ℕ) (f : Pair) : Type 0 where
    start : IsStart resolution (sending f) end (start_at end f)
    released : f.release ≤ start_at end f
    behind_control : floor ≤ start_at end f

  fits-says : (end : ℕ) (f : Pair) → fits_at end f ≡ true → Fits end f
  unfolding fits
  fits-says end f h =
      let later = both_right (leb (sending f) end) _ h in
      record {
        start = start-of end f (leb-true (sending f) end (both_left (leb (sending f) end) _ h));
        released = leb-true f.release (start_at end f) (both_left (leb f.release (start_at end f)) _ later);
        behind_control = leb-true floor (start_at end f) (both_right (leb f.release (start_at end f)) _ later);
      }

  start_is : {end start : ℕ} {f : Pair} → IsStart resolution (sending f) end start → start_at end f ≡ start
  start_is {end} {f = f} s = start_unique (start-of end f (omega (arith, s.stops))) s

  fits_so : {end start : ℕ} {f : Pair} → IsStart resolution (sending f) end start → f.release ≤ start → floor ≤ start → fits_at end f ≡ true
  unfolding fits
  fits_so {end} {start} {f} s r c =
      let time : sending f ≤ end = omega (arith, s.stops) in
      rw (start_is {f = f} s, le-leb (sending f) end time, le-leb f.release start r, le-leb floor start c)

  no_place_lem : (end : ℕ) (f : Pair) → fits_at end f ≡ false → NoPlace resolution floor (sending f) f.release end
  unfolding fits
  no_place_lem end f h = go (tested (leb (sending f) end)) (tested (leb f.release (start_at end f))) (tested (leb floor (start_at end f)))
    where
      go : (leb (sending f) end ≡ true) ⊎ (leb (sending f) end ≡ false)
          → (leb f.release (start_at end f) ≡ true) ⊎ (leb f.release (start_at end f) ≡ false)
          → (leb floor (start_at end f) ≡ true) ⊎ (leb floor (start_at end f) ≡ false)
          → NoPlace resolution floor (sending f) f.release end
      go (inr a) b c = let late : end < sending f = leb-false _ _ a in no_start (λ m d w. absurd (omega arith))
      go (inl a) (inr b) c = before_release (start-of end f (leb-true _ _ a)) (leb-false _ _ b)
      go (inl a) (inl b) (inr c) = before_floor (start-of end f (leb-true _ _ a)) (leb-false _ _ c)
      go (inl a) (inl b) (inl c) = let z : ◌≡◌ {A = ℕ} 0 1 = cc in absurd (omega arith)

  fits_not : {end : ℕ} {f : Pair} → NoPlace resolution floor (sending f) f.release end → fits_at end f ≡ false
  fits_not {end} {f} n = go (tested (fits_at end f)) n
    where
      go : (fits_at end f ≡ true) ⊎ (fits_at end f ≡ false) → NoPlace resolution floor (sending f) f.release end → fits_at end f ≡ false
      go (inr h) n = h
      go (inl h) (no_start none) =
          let s = (fits-says end f h).start in
          absurd (none (start_at end f) s.multiple s.stops)
      go (inl h) (before_release s early) = let t = fits-says end f h in absurd (omega (arith, start_is {f = f} s, t.released))
      go (inl h) (before_floor s early) = let t = fits-says end f h in absurd (omega (arith, start_is {f = f} s, t.behind_control))

  -- ---- one step of the definition: the end, the frame taken, what is placed, the next end, what is left

  abbrev end_of : ℕ → List Numbered → ℕ
  end_of e left = lowered resolution gap floor sending e left

  abbrev taken_of : ℕ → List Numbered → Numbered
  taken_of e left = taken_at (end_of e left) left

  abbrev fits_of : ℕ → List Numbered → Bool
  fits_of e left = fits_at (end_of e left) (taken_of e left).pair

  abbrev put_at : ℕ → Numbered → Placed
  put_at end x = record { number = x.number; pair = x.pair; start = start_at end x.pair }

  abbrev put_of : ℕ → List Numbered → Placed
  put_of e left = put_at (end_of e left) (taken_of e left)

  abbrev next_of : ℕ → List Numbered → ℕ
  next_of e left = (put_of e left).start - gap

  abbrev left_of : ℕ → List Numbered → List Numbered
  left_of e left = keep (is_other (taken_of e left).number) left

  placing_turn : (n e : ℕ) (left : List Numbered) (done : List Placed) → fits_of e left ≡ true
      → placing (suc n) e left done ≡ placing n (next_of e left) (left_of e left) (put_of e left ∷ done)
  unfolding place
  placing_turn n e left done h = rw (h, place)

  placing_stop : (n e : ℕ) (left : List Numbered) (done : List Placed) → fits_of e left ≡ false
      → placing (suc n) e left done ≡ refuse 12 (taken_of e left).number
  unfolding place
  placing_stop n e left done h = rw (h, place)

  -- ---- the definition takes such a step

  module _ (e : ℕ) (left : List Numbered) (some : 0 < length left) where
    takes : IsTaken (end_of e left) left (taken_of e left)
    takes = taken-of (candidate_of (lowered_of e left some))

    places_of : Pairs Other left → fits_of e left ≡ true
        → Places resolution gap floor sending e left (put_of e left) (next_of e left) (left_of e left)
    places_of apart h =
        let f = fits-says (end_of e left) (taken_of e left).pair h in
        record {
          end = end_of e left;
          lowered = lowered_of e left some;
          taken = takes;
          start = f.start;
          released = f.released;
          behind_control = f.behind_control;
          ends = refl;
          leaves = without_of apart takes.candidate.among;
        }

    sticks_of : fits_of e left ≡ false → Sticks resolution gap floor sending e left (taken_of e left).number
    sticks_of h =
        record {
          end = end_of e left;
          lowered = lowered_of e left some;
          pair = (taken_of e left).pair;
          taken = takes;
          no_place = no_place_lem (end_of e left) (taken_of e left).pair h;
        }

  abbrev Run : ℕ → List Numbered → List Placed → Res (List Placed) → Type 0
  Run = Steps resolution gap floor sending

  steps_turn : (n e : ℕ) (left : List Numbered) (done : List Placed) → 0 < length left → Pairs Other left → (b : Bool) → fits_of e left ≡ b
      → (Pairs Other (left_of e left) → length left ≡ suc (length (left_of e left))
      → Run (next_of e left) (left_of e left) (put_of e left ∷ done) (placing n (next_of e left) (left_of e left) (put_of e left ∷ done)))
      → Run e left done (placing (suc n) e left done)
  steps_turn n e left done some apart true h rest =
      let p = places_of e left some apart h in
      let onward = rest (pairs-keep (is_other (taken_of e left).number) apart) (without_length p.leaves) in
      places p (subst (Run (next_of e left) (left_of e left) (put_of e left ∷ done)) (sym (placing_turn n e left done h)) onward)
  steps_turn n e left done some apart false h rest = sticks (sticks_of e left some h) (sym (placing_stop n e left done h))

  nothing : (left : List Numbered) → length left ≡ 0 → left ≡ []
  nothing [] e = refl
  nothing (x ∷ l) e = absurd (omega (arith, e))

  steps_of : (n e : ℕ) (left : List Numbered) (done : List Placed) → length left ≡ n → Pairs Other left → Run e left done (placing n e left done)
  unfolding place
  steps_of zero e left done c apart = none_left (nothing left c) refl
  steps_of (suc n) e left done c apart =
      steps_turn n e left done (omega arith) apart (fits_of e left) refl
      (λ others w. steps_of n (next_of e left) (left_of e left) (put_of e left ∷ done) (omega arith) others)

  -- ---- such a step is the definition's

  some_left : {left : List Numbered} {x : Numbered} → Memᴰ x left → 0 < length left
  some_left (Memᴰ.head e) = suc-le-suc zero-le
  some_left (Memᴰ.tail m) = suc-le-suc zero-le

  end_is : {e end : ℕ} {left : List Numbered} → IsLowered e left end → end_of e left ≡ end
  end_is {e} {left = left} h = lowered_unique (lowered_of e left (some_left h.is_greatest.among)) h

  taken_is : {end : ℕ} {left : List Numbered} {x : Numbered} → Pairs Other left → IsTaken end left x → taken_at end left ≡ x
  taken_is apart t = taken_unique apart (taken-of t.candidate) t

  places_is : {e next : ℕ} {left rest : List Numbered} {x : Placed} (n : ℕ) (done : List Placed) → Pairs Other left
      → Places resolution gap floor sending e left x next rest → placing (suc n) e left done ≡ placing n next rest (x ∷ done)
  places_is {e} {next} {left} {rest} {x} n done apart p =
      let end = end_is p.lowered in
      let pair = taken_is apart p.taken in
      let start = start_is {f = x.pair} p.start in
      let fit : fits_of e left ≡ true = rw (end, pair) (fits_so {f = x.pair} p.start p.released p.behind_control) in
      placing_turn n e left done fit ∙ rw (end, pair, start, without_is apart p.leaves, p.ends)

  sticks-is : {e number : ℕ} {left : List Numbered} (n : ℕ) (done : List Placed) → Pairs Other left
      → Sticks resolution gap floor sending e left number → placing (suc n) e left done ≡ refuse 12 number
  sticks-is {e} {number} {left} n done apart s =
      let end = end_is s.lowered in
      let pair = taken_is apart s.taken in
      let fit : fits_of e left ≡ false = rw (end, pair) (fits_not {f = s.pair} s.no_place) in
      placing_stop n e left done fit ∙ rw (end, pair)

  steps-is : {e : ℕ} {left : List Numbered} {done : List Placed} {outcome : Res (List Placed)} (n : ℕ) → length left ≡ n → Pairs Other left
      → Run e left done outcome → placing n e left done ≡ outcome
  unfolding place
  steps-is zero c apart (none_left l o) = o
  steps-is (suc n) c apart (none_left l o) = absurd (omega (arith, c, ap length l))
  steps-is zero c apart (places p r) = absurd (omega (arith, c, without_length p.leaves))
  steps-is (suc n) c apart (places {rest = rest} {done = done} {x = x} p r) =
      let fewer : length rest ≡ n = omega (arith, c, without_length p.leaves) in
      let others : Pairs Other rest = subst (Pairs Other) (without_is apart p.leaves) (pairs-keep (is_other x.number) apart) in
      places_is n done apart p ∙ steps-is n fewer others r
  steps-is zero c apart (sticks s o) = absurd (omega (arith, c, some_left s.taken.candidate.among))
  steps-is (suc n) c apart (sticks {done = done} s o) = sticks-is n done apart s ∙ o

-- ---- the frames with their numbers

pub length_numbered : (k : ℕ) (fs : List Pair) → length (numbered_from k fs) ≡ length fs
unfolding numbered_from
length_numbered k [] = refl
length_numbered k (f ∷ fs) = ap suc (length_numbered (suc k) fs)

numbered_above : (m k : ℕ) (fs : List Pair) → m < k → All (λ x. m ≡ x.number → ⊥) (numbered_from k fs)
unfolding numbered_from
numbered_above m k [] h = empty
numbered_above m k (f ∷ fs) h =
    let below : m ≡ k → ⊥ = omega arith in
    also below (numbered_above m (suc k) fs (omega arith))

pub numbered_distinct : (k : ℕ) (fs : List Pair) → Pairs Other (numbered_from k fs)
unfolding numbered_from
numbered_distinct k [] = alone
numbered_distinct k (f ∷ fs) = before (numbered_above k (suc k) fs (omega arith)) (numbered_distinct (suc k) fs)

-- ---- the rule looks at the sending times of the pairs left, and at no other

without_all : {P : Numbered → Type 0} {x : Numbered} {left rest : List Numbered} → Without x left rest → All P left → All P rest
without_all {P} (here e q) (also p a) = subst (All P) q a
without_all (behind w) (also p a) = also p (without_all w a)

module _ (resolution gap floor : ℕ) (sending time : Pair → ℕ) where
  -- the two times of the pair are the same
  abbrev SameTime : Numbered → Type 0
  SameTime x = sending x.pair ≡ time x.pair

  steps-same : {e : ℕ} {left : List Numbered} {done : List Placed} {outcome : Res (List Placed)} → All SameTime left
      → Steps resolution gap floor sending e left done outcome → Steps resolution gap floor time e left done outcome
  steps-same a (none_left l o) = none_left l o
  steps-same a (places {x = x} p r) =
      let same = all_member a p.taken.candidate.among in
      places
      (record {
        end = p.end;
        lowered = p.lowered;
        taken = p.taken;
        start = subst (λ (t : ℕ). IsStart resolution t p.end x.start) same p.start;
        released = p.released;
        behind_control = p.behind_control;
        ends = p.ends;
        leaves = p.leaves;
      })
      (steps-same (without_all p.leaves a) r)
  steps-same a (sticks s o) =
      let same = all_member a s.taken.candidate.among in
      sticks
      (record {
        end = s.end;
        lowered = s.lowered;
        pair = s.pair;
        taken = s.taken;
        no_place = subst (λ (t : ℕ). NoPlace resolution floor t s.pair.release s.end) same s.no_place;
      })
      o

  pub place_same : (e : ℕ) (left : List Numbered) → Pairs Other left → All SameTime left
      → place resolution gap floor sending (length left) e left [] ≡ place resolution gap floor time (length left) e left []
  place_same e left apart a =
      sym
      (steps-is resolution gap floor time (length left) refl apart
      (steps-same a (steps_of resolution gap floor sending (length left) e left [] refl apart)))

-- ---- the rule

steps_twelve : {resolution gap floor : ℕ} {sending : Pair → ℕ} {e n p : ℕ} {left : List Numbered} {done : List Placed}
    → Steps resolution gap floor sending e left done (refuse n p) → n ≡ 12
steps_twelve (none_left l o) = refuse≢ok (sym o)
steps_twelve (places p r) = steps_twelve r
steps_twelve (sticks s o) = sym (refuse-number o)

module _ (l : Layout) where
  rule-steps : RuleGives l (latest_release l)
  unfolding latest_release
  rule-steps =
      steps_of l.grid l.gap l.floor (time_alone l) (length l.pairs) l.end
      (numbered_from 0 l.pairs) [] (length_numbered 0 l.pairs) (numbered_distinct 0 l.pairs)

  rule-is : (outcome : Res (List Placed)) → RuleGives l outcome → latest_release l ≡ outcome
  unfolding latest_release
  rule-is outcome =
      steps-is l.grid l.gap l.floor (time_alone l) (length l.pairs)
      (length_numbered 0 l.pairs) (numbered_distinct 0 l.pairs)

  -- the rule places these frames so, or refuses at that frame, exactly where a run of its steps comes to that
  pub rule_exact : (outcome : Res (List Placed)) → (latest_release l ≡ outcome) ↔ RuleGives l outcome
  rule_exact outcome = (λ e. subst (RuleGives l) e rule-steps, rule-is outcome)

  -- no second outcome
  pub rule_unique : (a b : Res (List Placed)) → RuleGives l a → RuleGives l b → a ≡ b
  rule_unique a b r s = sym (rule-is a r) ∙ rule-is b s

  -- its refusal is 12
  pub rule_twelve : (n pair : ℕ) → latest_release l ≡ refuse n pair → n ≡ 12
  rule_twelve n pair e = steps_twelve ((rule_exact (refuse n pair)).0 e)
