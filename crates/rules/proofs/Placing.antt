-- Placing: what the latest-release rule places is placed well (`Obeys.PlacedWell`), each pair in a row of its own. The rule's steps are
-- followed from the end down: at each of them the pairs left are told apart from those placed, and what was placed is where it may be.
use mathlib.Core.Path.{◌≡◌, refl, sym, ap, ◌∙◌, subst}
use mathlib.Core.Bool.{true}
use mathlib.Core.List.Memᴰ
use mathlib.Core.List.{List, [], ◌∷◌, map, Memᴰ}
use native.Mathlib.Nat.{zero-add, add-zero, add-suc, suc-add}
use native.Mathlib.Omega.{arith}
use borrow.Author.Tests.{eqb-false, not-true}
use lib.Dec.{eqb}
use lib.ListN.{length, get_or, length-map}
use Prim.Native.Nat.{ℕ, suc, ◌+◌, ◌≤◌, ◌<◌, ◌∣◌, zero-le, suc-le-suc}
use Rattle.laws.specs.Res.{Res, ok}
use Rattle.laws.proofs.Res.{refuse≢ok, ok_injective}
use Rattle.laws.proofs.Members.{
  All,
  empty,
  also,
  Pairs,
  alone as no-pair,
  before,
  Chain,
  no_link,
  last_link,
  link,
  all_both,
  all_member,
  all_weaker,
  all_keep,
  keep-passes,
  pairs-keep,
  pairs-map,
  all_map,
  source,
  Differ,
  pigeonhole,
}
use Rattle.rules.specs.Frames.{Pair, Layout}
use Rattle.rules.specs.LatestRelease.{Numbered, numbered_from, Placed, no_pair, is_other, time_alone, latest_release}
use Rattle.rules.specs.Table.{held_in, pairs_in, alone}
use Rattle.rules.specs.RuleSteps.{unplaced, Places, Steps, none_left, places, sticks}
use Rattle.rules.specs.Obeys.{pair_at, IsPair, stop_of, RowPlacedWell, Spaced, no_row, one_row, next_row, numbers_in, PlacedWell}
use Rattle.rules.proofs.RuleSteps.{Other, without_length, without_is, numbered_distinct, length_numbered, rule_exact}

told-apart : (k : ℕ) (y : Numbered) → is_other k y ≡ true → k ≡ y.number → ⊥
unfolding is_other
told-apart k y h q = eqb-false y.number k (not-true (eqb y.number k) h) (sym q)

-- ---- the pairs with their numbers

module _ (l : Layout) where
  numbered_known : (k : ℕ) (fs : List Pair)
      → ((j : ℕ) → j < length fs → (k + j < length l.pairs) × (get_or l.pairs (k + j) no_pair ≡ get_or fs j no_pair))
      → All (IsPair l) (numbered_from k fs)
  unfolding numbered_from pair_at
  numbered_known k [] h = empty
  numbered_known k (f ∷ fs) h =
      let zeroth = h 0 (suc-le-suc zero-le) in
      also
      (record { there = rw (add-zero k) at zeroth.0; is = rw (add-zero k) at zeroth.1 })
      (numbered_known (suc k) fs (λ j w. rw (suc-add k j, ← add-suc k j) (h (suc j) (suc-le-suc w))))

  known-all : All (IsPair l) (numbered_from 0 l.pairs)
  known-all = numbered_known 0 l.pairs (λ j w. rw (zero-add j) (w, refl))

abbrev pub number_of : Placed → ℕ
number_of x = x.number

abbrev Apart : Placed → Placed → Type 0
Apart x y = x.number ≡ y.number → ⊥

-- ---- the rule's steps on a layout

module _ (l : Layout) where
  -- of one pair: where its start lies
  pub record Good (x : Placed) : Type 0 where
    pub released : x.pair.release ≤ x.start
    pub behind : l.floor ≤ x.start
    pub in-time : x.start + time_alone l x.pair ≤ x.pair.deadline
    pub by_end : x.start + time_alone l x.pair ≤ l.end
    pub on-grid : l.grid ∣ x.start

  -- each placed in front stops, and the gap passes, before the next starts
  abbrev pub GapBetween : Placed → Placed → Type 0
  GapBetween x y = x.start + time_alone l x.pair + l.gap ≤ y.start

  abbrev Step : ℕ → List Numbered → Placed → ℕ → List Numbered → Type 0
  Step = Places l.grid l.gap l.floor (time_alone l)

  -- the end e lies a gap before what was placed last
  data Ahead (e : ℕ) : List Placed → Type 0 where
    free : Ahead e []
    ahead : {x : Placed} {xs : List Placed} → e + l.gap ≤ x.start → Ahead e (x ∷ xs)

  -- what holds at every step: the pairs left are told apart from each other and from those placed
  record Sofar (e : ℕ) (left : List Numbered) (done : List Placed) : Type 0 where
    within : e ≤ l.end
    distinct : Pairs Other left
    known : All (IsPair l) left
    good : All Good done
    origin : All (λ x. IsPair l (unplaced x)) done
    apart : All (λ x. All (λ y. x.number ≡ y.number → ⊥) left) done
    placed : Pairs Apart done
    spaced : Chain GapBetween done
    front : Ahead e done

  step-good : {e next : ℕ} {left rest : List Numbered} {x : Placed} → e ≤ l.end → Step e left x next rest → Good x
  step-good h p =
      record {
        released = p.released;
        behind = p.behind_control;
        in-time = omega (arith, p.start.stops, p.taken.candidate.in_time);
        by_end = omega (arith, p.start.stops, p.lowered.smaller);
        on-grid = p.start.multiple;
      }

  spaced_turn : {e next : ℕ} {left rest : List Numbered} {x : Placed} {done : List Placed} → Step e left x next rest
      → Ahead e done → Chain GapBetween done → Chain GapBetween (x ∷ done)
  spaced_turn p free c = last_link
  spaced_turn {x = x} p (ahead {x = y} q) c =
      let room : GapBetween x y = omega (arith, p.start.stops, p.lowered.smaller) in
      link room c

  clash : (y : Numbered) (left : List Numbered) (x : Placed) → All (λ z. x.number ≡ z.number → ⊥) left → Memᴰ y left
      → x.number ≡ y.number → ⊥
  clash y left x a m = all_member a m

  sofar_turn : l.gap ≤ l.floor → {e next : ℕ} {left rest : List Numbered} {x : Placed} {done : List Placed} → Step e left x next rest
      → Sofar e left done → Sofar next rest (x ∷ done)
  sofar_turn low {e} {next} {left} {rest} {x} {done} p s =
      let other = is_other x.number in
      let among = p.taken.candidate.among in
      let room : next + l.gap ≤ x.start = omega (arith, low, p.ends, p.behind_control) in
      let good = step-good s.within p in
      subst (λ (rest : List Numbered). Sofar next rest (x ∷ done)) (without_is s.distinct p.leaves)
      (record {
        within = omega (arith, room, good.by_end);
        distinct = pairs-keep other s.distinct;
        known = all_keep other s.known;
        good = also good s.good;
        origin = also (all_member s.known among) s.origin;
        apart = also (all_weaker (told-apart x.number) (keep-passes other left)) (all_weaker (λ y a. all_keep other a) s.apart);
        placed = before (all_weaker (λ y a q. clash (unplaced x) left y a among (sym q)) s.apart) s.placed;
        spaced = spaced_turn p s.front s.spaced;
        front = ahead room;
      })

  -- what the rule gives: as many as pairs, each one a pair with its number, none twice, each where the layout lets it start, spaced
  pub record Settled (placed : List Placed) : Type 0 where
    pub count : length placed ≡ length l.pairs
    pub good : All Good placed
    pub origin : All (λ x. IsPair l (unplaced x)) placed
    pub distinct : Pairs Apart placed
    pub spaced : Chain GapBetween placed

  settled_same : {e : ℕ} {left : List Numbered} {done placed : List Placed} → done ≡ placed → length done ≡ length l.pairs
      → Sofar e left done → Settled placed
  settled_same q k s =
      subst Settled q (record { count = k; good = s.good; origin = s.origin; distinct = s.placed; spaced = s.spaced })

  settled : l.gap ≤ l.floor → {e : ℕ} {left : List Numbered} {done : List Placed} {outcome : Res (List Placed)} (placed : List Placed)
      → Steps l.grid l.gap l.floor (time_alone l) e left done outcome → outcome ≡ ok placed
      → length left + length done ≡ length l.pairs → Sofar e left done → Settled placed
  settled low placed (none_left z o) q c s = settled_same (ok_injective (o ∙ q)) (omega (arith, c, ap length z)) s
  settled low placed (places {rest = rest} {done = done} p r) q c s =
      let d : length rest + suc (length done) ≡ length l.pairs = omega (arith, c, without_length p.leaves) in
      settled low placed r q d (sofar_turn low p s)
  settled low placed (sticks t o) q c s = refuse≢ok (o ∙ q)

  begun : Sofar l.end (numbered_from 0 l.pairs) []
  begun =
      record {
        within = omega arith;
        distinct = numbered_distinct 0 l.pairs;
        known = known-all l;
        good = empty;
        origin = empty;
        apart = empty;
        placed = no-pair;
        spaced = no_link;
        front = free;
      }

  pub rule-settled : l.gap ≤ l.floor → (placed : List Placed) → latest_release l ≡ ok placed → Settled placed
  rule-settled low placed h =
      settled low placed ((rule_exact l (ok placed)).0 h) refl (omega (arith, length_numbered 0 l.pairs)) begun

-- ---- each in a row of its own

numbers-alone : (placed : List Placed) → numbers_in (map alone placed) ≡ map number_of placed
unfolding numbers_in held_in alone
numbers-alone [] = refl
numbers-alone (x ∷ xs) = ap (λ (ns : List ℕ). x.number ∷ ns) (numbers-alone xs)

module _ (l : Layout) where
  row_well : (x : Placed) → l.together (x.pair ∷ []) ≡ true → Good l x → IsPair l (unplaced x) → RowPlacedWell l (alone x)
  unfolding alone held_in pairs_in stop_of time_alone
  row_well x lonely g k =
      record {
        known = λ y m. only (IsPair l) y m k;
        together = lonely;
        on_grid = g.on-grid;
        behind_control = g.behind;
        released = λ y m. only (λ y. y.pair.release ≤ x.start) y m g.released;
        in_time = λ y m. only (λ y. x.start + time_alone l x.pair ≤ y.pair.deadline) y m g.in-time;
        by_end = g.by_end;
      }
    where
      only : (P : Numbered → Type 0) (y : Numbered) → Memᴰ y (unplaced x ∷ []) → P (unplaced x) → P y
      only P y (Memᴰ.head e) p = subst P (sym e) p
      only P y (Memᴰ.tail m) p = absurd (Memᴰ.not-nil m)

  spaced-alone : {placed : List Placed} → Chain (GapBetween l) placed → Spaced l (map alone placed)
  unfolding alone held_in pairs_in stop_of time_alone
  spaced-alone no_link = no_row
  spaced-alone last_link = one_row
  spaced-alone (link g c) = next_row g (spaced-alone c)

  -- each pair was placed
  each_placed : (placed : List Placed) → Settled l placed → (f : ℕ) → f < length l.pairs → Memᴰ f (map number_of placed)
  each_placed placed s f w =
      pigeonhole (length l.pairs) f (pairs-map number_of {R = Differ} s.distinct)
      (all_map number_of (all_weaker (λ x h. h.there) s.origin))
      (length-map placed number_of ∙ s.count)
      w

  settled_well : (placed : List Placed) → ((f : Pair) → l.together (f ∷ []) ≡ true) → Settled l placed → PlacedWell l (map alone placed)
  settled_well placed lonely s =
      record {
        rows_well =
            λ r m.
            let x = source alone placed m in
            let facts = all_member (all_both s.good s.origin) x.among in
            subst (RowPlacedWell l) x.gives (row_well x.one (lonely x.one.pair) facts.0 facts.1);
        spaced = spaced-alone s.spaced;
        some = λ f w. rw (numbers-alone placed) (each_placed placed s f w);
        once = rw (numbers-alone placed) (length-map placed number_of ∙ s.count);
      }

  -- where the gap is at most C and any pair may be alone in a row, what the rule places is placed well
  pub placed_well : l.gap ≤ l.floor → ((f : Pair) → l.together (f ∷ []) ≡ true) → (placed : List Placed) → latest_release l ≡ ok placed
      → PlacedWell l (map alone placed)
  placed_well low lonely placed h = settled_well placed lonely (rule-settled l low placed h)
