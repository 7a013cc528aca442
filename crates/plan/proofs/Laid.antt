-- A plan within the ranges of its counts is seen again as it was laid out, and every plan that is read is such.
use mathlib.Core.Path.{◌≡◌, refl, sym}
use mathlib.Core.List.{List, [], ◌∷◌, map}
use mathlib.Core.Option.{none}
use native.Mathlib.Omega.{arith}
use lib.Dec.{leb}
use lib.ListN.{length, take, length-map}
use borrow.Author.Tests.{leb-true}
use Prim.Native.Nat.{ℕ, ◌≤◌, ◌<◌, ◌+◌}
use Rattle.laws.specs.Res.{ok, at}
use Rattle.laws.specs.Lists.{first_bad, up_to}
use Rattle.laws.specs.Loops.{pad_to}
use Rattle.laws.proofs.Lists.{take-pad_to, both_right}
use Rattle.laws.proofs.Loops.{first_bad-up_to-passes}
use Rattle.laws.proofs.Res.{bind_case, then_case, at_ok, ok_injective}
use Rattle.rules.specs.Records.{Rec, records, plan_follows}
use Rattle.rules.specs.Plan as rules
use Rattle.plan.specs.Memory.{lay_out, seen, count_seen, bus_laid, bus_seen, module_laid, module_seen, mode_laid, mode_seen, task_laid, task_seen, invocation_laid, invocation_seen, connection_laid, connection_seen}

-- no more of each kind than have a place
pub record Placed (p : rules.Plan) : Type 0 where
  pub modules : length p.modules ≤ 16
  pub modes : length p.modes ≤ 32
  pub tasks : length p.tasks ≤ 32
  pub invocations : length p.invocations ≤ 64
  pub connections : length p.connections ≤ 64

module _ {A B : Type 0} (f : A → B) (g : B → A) (back : (x : A) → g (f x) ≡ x) where
  map_back : (l : List A) → map g (map f l) ≡ l
  map_back [] = refl
  map_back (x ∷ l) = rw (back x, map_back l)

  part_back : (n : ℕ) (z : B) (l : List A) → length l ≤ n → map g (take (length l) (pad_to n z (map f l))) ≡ l
  part_back n z l h =
      let w : length (map f l) ≤ n = rw (length-map l f) h in
      rw (← length-map l f, take-pad_to n z (map f l) w) (map_back l)

pub seen-laid : (p : rules.Plan) → Placed p → seen (lay_out p) ≡ p
unfolding seen lay_out count_seen bus_seen bus_laid module_seen module_laid mode_seen mode_laid task_seen task_laid invocation_seen invocation_laid connection_seen connection_laid
seen-laid p h =
    rw (
      part_back module_laid module_seen (λ x. refl) 16 (module_laid 0) p.modules h.modules,
      part_back mode_laid mode_seen (λ x. refl) 32 (mode_laid rules.no_mode) p.modes h.modes,
      part_back task_laid task_seen (λ x. refl) 32 (task_laid rules.no_task) p.tasks h.tasks,
      part_back invocation_laid invocation_seen (λ x. refl) 64 (invocation_laid rules.no_invocation) p.invocations h.invocations,
      part_back connection_laid connection_seen (λ x. refl) 64 (connection_laid rules.no_connection) p.connections h.connections,
    )

module _ (rs : List Rec) (e : first_bad (rules.count_fits rs) (up_to 6) ≡ none) where
  fits : (k : ℕ) → k < 6 → rules.count rs (2 + k) ≤ rules.nth rules.most_counts k
  unfolding rules.count_fits
  fits k h =
      leb-true (rules.count rs (2 + k)) (rules.nth rules.most_counts k)
      (both_right (leb (rules.nth rules.least_counts k) (rules.count rs (2 + k)))
      (leb (rules.count rs (2 + k)) (rules.nth rules.most_counts k))
      (first_bad-up_to-passes (rules.count_fits rs) 6 k e h))

  pub counts-placed : Placed (rules.plan_of rs)
  unfolding rules.plan_of rules.count rules.most_counts
  counts-placed =
      record {
        modules = rw (length-map (rules.things 3 rs) rules.module_of) (fits 1 (omega arith));
        modes = rw (length-map (rules.things 4 rs) rules.mode_of) (fits 2 (omega arith));
        tasks = rw (length-map (rules.things 5 rs) rules.task_of) (fits 3 (omega arith));
        invocations = rw (length-map (rules.things 6 rs) rules.invocation_of) (fits 4 (omega arith));
        connections = rw (length-map (rules.things 7 rs) rules.connection_of) (fits 5 (omega arith));
      }

-- what a plan that is read has passed
pub record Passed (file : List ℕ) (p : rules.Plan) (rs : List Rec) : Type 0 where
  pub walked : records plan_follows 1 file ≡ ok rs
  pub counted : first_bad (rules.count_fits rs) (up_to 6) ≡ none
  pub named : first_bad (rules.names_are_there (rules.count rs)) rs ≡ none
  pub ranged : first_bad rules.numbers_are_within rs ≡ none
  pub fitted : rules.rule5 (rules.plan_of rs) ≡ ok tt
  pub made : p ≡ rules.plan_of rs

pub read_passed : {C : Type 0} (file : List ℕ) (p : rules.Plan) → rules.read_plan file ≡ ok p
    → ((rs : List Rec) → Passed file p rs → C) → C
unfolding rules.read_plan
read_passed file p e go =
    bind_case (records plan_follows 1 file) _ e λ rs w r.
    then_case (at 2 2 (first_bad (rules.count_fits rs) (up_to 6))) _ r λ a two r2.
    then_case (at 3 0 (first_bad (rules.names_are_there (rules.count rs)) rs)) _ r2 λ b three r3.
    then_case (at 4 0 (first_bad rules.numbers_are_within rs)) _ r3 λ c four r4.
    then_case (rules.rule5 (rules.plan_of rs)) _ r4 λ d five r5.
    go rs record {
      walked = w;
      counted = at_ok 2 2 _ two;
      named = at_ok 3 0 _ three;
      ranged = at_ok 4 0 _ four;
      fitted = five;
      made = sym (ok_injective r5);
    }

pub read-placed : (file : List ℕ) (p : rules.Plan) → rules.read_plan file ≡ ok p → Placed p
read-placed file p e = read_passed file p e λ rs h. rw h.made (counts-placed rs h.counted)

pub read-seen : (file : List ℕ) (p : rules.Plan) → rules.read_plan file ≡ ok p → seen (lay_out p) ≡ p
read-seen file p e = seen-laid p (read-placed file p e)
