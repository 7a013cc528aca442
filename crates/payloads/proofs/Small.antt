-- The times of a plan that was read are small.
use mathlib.Core.Path.{◌≡◌, sym, ap, ◌∙◌}
use mathlib.Core.List.{List, map}
use native.Mathlib.Nat.{max-le, le-mul_of_pos_right, mul-le-mul_right}
use native.Mathlib.Omega.{arith}
use lib.Dec.{lit≤}
use lib.ListN.{length, get_or, replicate, get_or-eq_default}
use Prim.Native.Nat.{ℕ, ◌+◌, ◌*◌, ◌≤◌, ◌<◌, max}
use Rattle.laws.specs.Lists.{tab}
use Rattle.laws.specs.Loops.{stores}
use Rattle.laws.specs.Numbers.{ceil, up}
use Rattle.laws.proofs.Bus.{table_filled}
use Rattle.laws.proofs.Divisors.{ceil-least, up_tight}
use Rattle.laws.proofs.Members.{all-get_or-or, all_weaker}
use Rattle.rules.specs.Plan.{Bus, Plan, Task, no_task, the_task}
use Rattle.rules.specs.Frames.{of_bits, on_bus, sending_time, gap_on_bus, gap_time}
use Rattle.rules.proofs.PlanKept.{PlanKept, BusKept}
use Rattle.plan.specs.declared.Task as memory
use Rattle.plan.specs.Memory.{task_seen, task_laid}
use Rattle.bus.proofs.Marking.{seen_at}
use Rattle.payloads.specs.Tests.{task_time}

module _ (b : Bus) (k : BusKept b) where
  ticks-small : (bits : ℕ) → bits ≤ 4000 → (of_bits b bits).ticks < 4294967296
  unfolding of_bits
  ticks-small bits h =
      let one : 1 ≤ b.rate = k.rate.least in
      let c : ceil (bits * 1000) b.rate ≤ bits * 1000 = ceil-least (bits * 1000) b.rate (bits * 1000) (le-mul_of_pos_right (bits * 1000) one) in
      let r : 1 ≤ b.resolution = k.resolution.least in
      let s : b.resolution ≤ 1000 = k.resolution.most in
      let u : up b.resolution (ceil (bits * 1000) b.rate) < ceil (bits * 1000) b.rate + b.resolution = up_tight b.resolution (ceil (bits * 1000) b.rate) r in
      omega arith

  pub sending-small : (s : ℕ) → s ≤ 256 → sending_time b s < 4294967296
  unfolding sending_time on_bus
  sending-small s h =
      let o : b.overhead ≤ 64 = k.overhead.most in
      let l : b.least ≤ 254 = k.least.most in
      let m : max s b.least ≤ 256 = max-le h (omega arith) in
      let bytes = b.overhead + max s b.least in
      let few : b.byte_bits * bytes ≤ 12 * bytes = mul-le-mul_right bytes k.byte_bits.most in
      ticks-small (b.byte_bits * bytes) (omega arith)

  pub gap-small : gap_time b < 4294967296
  unfolding gap_time gap_on_bus
  gap-small = let g : b.gap ≤ 1000 = k.gap.most in ticks-small b.gap (omega arith)

-- the number of bytes that a task has, of the tasks as they are lent
pub size_of : (p : Plan) (things : List memory.Task) → map task_seen things ≡ p.tasks → (t : ℕ) → t < length things → (get_or things t (task_laid no_task)).size.0 ≡ (the_task p t).size
unfolding the_task task_seen task_laid
size_of p things e t h = sym (ap (λ (x : Task). x.size) (seen_at task_seen things e t (task_laid no_task) no_task h))

module _ (p : Plan) where
  task-small : PlanKept p → (t : ℕ) → (the_task p t).size ≤ 256
  unfolding the_task
  task-small k t = all-get_or-or {P = λ (x : Task). x.size ≤ 256} no_task (all_weaker (λ x h. let m : x.size ≤ 8 = h.size.most in omega arith) k.tasks) (lit≤ tt) t

  pub time-small : PlanKept p → (t size r : ℕ) → size ≡ (the_task p t).size → r ≡ sending_time p.bus size → r < 4294967296
  time-small k t size r e q =
      let h : (the_task p t).size ≤ 256 = task-small k t in
      rw q (sending-small p.bus k.bus size (omega arith))

  pub no_time-small : PlanKept p → (r : ℕ) → r ≡ sending_time p.bus 0 → r < 4294967296
  no_time-small k r q = rw q (sending-small p.bus k.bus 0 (omega arith))

  pub time-of : (t size r : ℕ) → size ≡ (the_task p t).size → r ≡ sending_time p.bus size → r ≡ task_time p t
  unfolding task_time
  time-of t size r e q = q ∙ ap (sending_time p.bus) e

-- a number that the plan has no task of stands for a message of no bytes
pub times-stored : (p : Plan) (a : List ℕ) (none n k : ℕ) → none ≡ sending_time p.bus 0 → n ≡ length p.tasks → n ≤ 32 → a ≡ stores (replicate 32 none) (task_time p) k → k ≤ n → n ≤ k
    → a ≡ tab (task_time p) 0 32
unfolding task_time the_task
times-stored p a none n k z c s e h w =
    let q : k ≡ n = omega arith in
    e ∙ ap (stores (replicate 32 none) (task_time p)) q
    ∙ table_filled 32 (task_time p) none n s (λ j u v. ap (λ (x : Task). sending_time p.bus x.size) (get_or-eq_default p.tasks no_task (omega arith)) ∙ sym z)
