-- What one more invocation makes of the least periods.
use mathlib.Core.Path.{◌≡◌, refl, sym}
use mathlib.Core.Bool.{cond}
use mathlib.Core.List.{List, [], map}
use borrow.Author.Tests.{eq-eqb, ne_eqb}
use lib.Dec.{eqb}
use lib.ListN.{length, get_or, set, take, replicate}
use Prim.Native.Nat.{ℕ, ◌+◌, ◌<◌, min}
use Rattle.laws.specs.Lists.{keep}
use Rattle.laws.specs.Numbers.{least}
use Rattle.laws.proofs.Lists.{take_more, map_snoc, keep_snoc_yes, keep_snoc_no}
use Rattle.laws.proofs.Members.{all_of_members, all_take, all_keep, all_map}
use Rattle.laws.proofs.Readers.{least_snoc}
use Rattle.rules.specs.Plan.{Plan, Invocation, no_invocation, period_of}
use Rattle.rules.specs.Traffic.{invokes, periods_of}
use Rattle.rules.proofs.PlanKept.{PlanKept}
use Rattle.rules.proofs.Needed.{period_pos}
use Rattle.bus.specs.Senders.{by_number}
use Rattle.bus.specs.Runs.{least_period}
use Rattle.bus.proofs.Tables.{at-number, all_alike, stored}

-- the least period of a task, had the plan only these invocations
unfoldable pub least_among : Plan → List Invocation → ℕ → ℕ
least_among q is t = least (map (period_of q) (keep (invokes t) is))

module _ (q : Plan) where
  pub leasts_none : replicate 256 0 ≡ by_number (least_among q [])
  unfolding least_among
  leasts_none = all_alike (least_among q []) 0 (λ k. refl)

  pub leasts_all : by_number (least_among q q.invocations) ≡ by_number (least_period q)
  unfolding least_among least_period periods_of
  leasts_all = refl

  module _ (i : ℕ) {x : Invocation} (w : i < length q.invocations) (here : get_or q.invocations i no_invocation ≡ x) where
    abbrev before : List Invocation
    before = take i q.invocations

    least_other : (j : ℕ) → (j ≡ x.task → ⊥) → least_among q (take (i + 1) q.invocations) j ≡ least_among q before j
    unfolding least_among invokes
    least_other j d =
        rw (take_more q.invocations i no_invocation w, here, keep_snoc_no (invokes j) before x (ne_eqb x.task j (λ e. d (sym e))))

    least-here : PlanKept q → least_among q (take (i + 1) q.invocations) x.task ≡ cond (eqb (least_among q before x.task) 0) (period_of q x) (min (least_among q before x.task) (period_of q x))
    unfolding least_among invokes
    least-here kept =
        let t = x.task in
        let positive = all_map {P = λ n. 0 < n} (period_of q) (all_keep (invokes t) (all_take i (all_of_members q.invocations (period_pos q kept)))) in
        rw (take_more q.invocations i no_invocation w, here, keep_snoc_yes (invokes t) before x (eq-eqb t t refl), map_snoc (period_of q) (keep (invokes t) before) x)
        (least_snoc (map (period_of q) (keep (invokes t) before)) (period_of q x) positive)

    pub leasts_turn : PlanKept q → {leasts : List ℕ} {t d v : ℕ} → leasts ≡ by_number (least_among q before) → t < 256 → t ≡ x.task → d ≡ period_of q x
        → v ≡ cond (eqb (get_or leasts t 0) 0) d (min (get_or leasts t 0) d) → set leasts t v ≡ by_number (least_among q (take (i + 1) q.invocations))
    leasts_turn kept {t = t} e h s p n =
        rw (n, e, at-number (least_among q before) t 0 h, p, s)
        (stored (least_among q before) (least_among q (take (i + 1) q.invocations)) x.task _ least_other (sym (least-here kept)))
