-- What one more invocation, connection, task or module makes of the tables of bus tasks, sending modules and control payloads.
use mathlib.Core.Path.{◌≡◌, refl, sym, ap, ◌∙◌}
use mathlib.Core.Bool.{Bool, true, false, ◌&&◌, ◌||◌, cond}
use mathlib.Core.List.{List, []}
use borrow.Author.Tests.{eq-eqb, ne_eqb}
use native.Mathlib.Nat.{add-zero}
use native.Mathlib.Omega.{arith}
use mir.Val.{bool_byte}
use lib.Dec.{eqb}
use lib.ListN.{length, get_or, set, replicate, length-append}
use Prim.Native.Nat.{ℕ, ◌+◌, ◌≤◌, ◌<◌}
use Rattle.laws.specs.Lists.{cons_if, keep, any, up_to}
use Rattle.laws.proofs.Lists.{and-true, or-false, any_append, keep-up_to_more, length-keep, length-up_to}
use Rattle.rules.specs.Plan.{Plan, the_task}
use Rattle.rules.specs.Traffic.{is_bus_task, is_sending, lives_in, stands_on, module_node}
use Rattle.bus.specs.Senders.{by_number, task_home, sending_by, payload_by}
use Rattle.bus.proofs.Tables.{stored, all_alike, at-number}
use Rattle.bus.proofs.Marking.{and-false}

pub other : (k j : ℕ) → (j ≡ k → ⊥) → eqb k j ≡ false
other k j n = ne_eqb k j (λ e. n (sym e))

-- ---- sending modules

pub sending-none : (p : Plan) → replicate 256 false ≡ by_number (sending_by p 0)
unfolding sending_by
sending-none p = all_alike (sending_by p 0) false (λ k. refl)

any-one : (p : ℕ → Bool) (b : Bool) (x : ℕ) → any p (cons_if b x []) ≡ (b && p x)
any-one p true x = or-false (p x)
any-one p false x = refl

module _ (p : Plan) (t : ℕ) where
  pub sending_more : set (by_number (sending_by p t)) (task_home p t) (sending_by p t (task_home p t) || is_bus_task p t) ≡ by_number (sending_by p (t + 1))
  unfolding sending_by lives_in task_home
  sending_more =
      stored (sending_by p t) (sending_by p (t + 1)) k _
      (λ j n. one j ∙ rw (other k j n) (ap (λ (b : Bool). sending_by p t j || b) (and-false (is_bus_task p t)) ∙ or-false _))
      (sym (one k ∙ rw (eq-eqb k k refl) (ap (λ (b : Bool). sending_by p t k || b) (and-true (is_bus_task p t)))))
    where
      k : ℕ
      k = (the_task p t).home

      one : (j : ℕ) → sending_by p (t + 1) j ≡ (sending_by p t j || (is_bus_task p t && eqb k j))
      one j =
          ap (any (lives_in p j)) (keep-up_to_more (is_bus_task p) t) ∙ any_append (lives_in p j) (keep (is_bus_task p) (up_to t)) _
          ∙ ap (λ (b : Bool). sending_by p t j || b) (any-one (lives_in p j) (is_bus_task p t) t)

-- ---- control payloads

pub payloads-none : (p : Plan) → replicate 256 0 ≡ by_number (payload_by p 0)
unfolding payload_by
payloads-none p = all_alike (payload_by p 0) 0 (λ k. refl)

pub payload-small : (p : Plan) (m node : ℕ) → payload_by p m node ≤ m
unfolding payload_by
payload-small p m node = rw (length-up_to m) at (length-keep (stands_on p node) (up_to m))

abbrev pub one_if : Bool → ℕ
one_if b = cond b 1 0

-- a `bool` as a byte
pub byte-is : (b : Bool) → bool_byte b ≡ one_if b
byte-is true = refl
byte-is false = refl

pub byte-small : (b : Bool) → bool_byte b ≤ 1
byte-small true = omega arith
byte-small false = omega arith

length-one : (b : Bool) (x : ℕ) → length (cons_if b x []) ≡ one_if b
length-one true x = refl
length-one false x = refl

module _ (p : Plan) (m : ℕ) where
  pub payloads_more : set (by_number (payload_by p m)) (module_node p m) (payload_by p m (module_node p m) + one_if (is_sending p m)) ≡ by_number (payload_by p (m + 1))
  unfolding payload_by stands_on
  payloads_more =
      stored (payload_by p m) (payload_by p (m + 1)) k _
      (λ j n. one j ∙ rw (other k j n) (add-zero _))
      (sym (one k ∙ rw (eq-eqb k k refl)))
    where
      k : ℕ
      k = module_node p m

      one : (j : ℕ) → payload_by p (m + 1) j ≡ payload_by p m j + one_if (eqb k j && is_sending p m)
      one j =
          ap length (keep-up_to_more (stands_on p j) m) ∙ length-append (keep (stands_on p j) (up_to m)) _
          ∙ ap (λ (n : ℕ). payload_by p m j + n) (length-one (stands_on p j m) m)

-- ---- the same, as a loop's turn has it: over the arrays that hold the tables

module _ (q : Plan) where
  pub sending_turn : {modules tasks : List Bool} {homes : List ℕ} {m : ℕ} {v : Bool} (t : ℕ) → modules ≡ by_number (sending_by q t) → tasks ≡ by_number (is_bus_task q) → homes ≡ by_number (task_home q) → t < 256 → m < 256 → m ≡ get_or homes t 0 → v ≡ (get_or modules m false || get_or tasks t false) → set modules m v ≡ by_number (sending_by q (t + 1))
  sending_turn {modules} {tasks} {homes} {m} t e f g w v h k =
      let s : m ≡ task_home q t = h ∙ rw g (at-number (task_home q) t 0 w) in
      rw (k, e, f, at-number (sending_by q t) m false v, at-number (is_bus_task q) t false w, s) (sending_more q t)

  pub payloads_turn : {payloads nodes : List ℕ} {modules : List Bool} {k v : ℕ} (m : ℕ) → payloads ≡ by_number (payload_by q m) → modules ≡ by_number (is_sending q) → nodes ≡ by_number (module_node q) → m < 256 → k < 256 → k ≡ get_or nodes m 0 → v ≡ get_or payloads k 0 + one_if (get_or modules m false) → set payloads k v ≡ by_number (payload_by q (m + 1))
  payloads_turn {k = k} m e f g w v h a =
      let s : k ≡ module_node q m = h ∙ rw g (at-number (module_node q) m 0 w) in
      rw (a, e, f, at-number (payload_by q m) k 0 v, at-number (is_sending q) m false w, s) (payloads_more q m)

  pub payload-fits : {payloads : List ℕ} (m k : ℕ) → payloads ≡ by_number (payload_by q m) → k < 256 → get_or payloads k 0 ≤ m
  payload-fits m k e w = rw (e, at-number (payload_by q m) k 0 w) (payload-small q m k)
