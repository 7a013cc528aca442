-- One record stored in place: the plan with its counts raised, and with what the record says at its place, is the plan with that
-- record more; where no place is left, the plan with its counts raised is.
use mathlib.Core.Path.{◌≡◌, refl}
use mathlib.Core.Bool.{Bool, true, false, cond}
use mathlib.Core.List.{List, [], ◌∷◌}
use native.Mathlib.Omega.{arith}
use lib.Dec.{eqb, leb}
use lib.ListN.{get_or, length, length-set, set}
use borrow.Author.Tests.{leb-true, le-leb, lt-leb, ne_eqb}
use Prim.Native.Nat.{ℕ, zero, suc, ◌≤◌}
use Rattle.laws.proofs.Lists.{both_left}
use Rattle.rules.specs.Records.{Rec, record_of, is_bus}
use Rattle.rules.specs.Plan as rules
use Rattle.plan.specs.declared.Bus.{Bus}
use Rattle.plan.specs.declared.Module.{Module}
use Rattle.plan.specs.declared.Mode.{Mode}
use Rattle.plan.specs.declared.Task.{Task}
use Rattle.plan.specs.declared.Invocation.{Invocation}
use Rattle.plan.specs.declared.Connection.{Connection}
use Rattle.plan.specs.declared.Plan.{Plan}
use Rattle.plan.specs.Memory.{bus_laid, module_laid, mode_laid, task_laid, invocation_laid, connection_laid, count_seen}
use Rattle.plangather.specs.Gather.{is_thing, number_of, counted_more, one_more, with_bus, with_nodes, with_module, with_mode, with_task, with_invocation, with_connection, with_record}
use Rattle.plangather.proofs.Gathering.{ABus, plain, framed}

-- ---- a number is a count

pub number-least : (p : Plan) (kind at : ℕ) → ((k : ℕ) → 3 ≤ k → count_seen p k ≤ at) → number_of p.counts kind ≤ at
unfolding number_of is_thing count_seen
number-least p kind at h = go (is_thing kind) refl
  where
    go : (b : Bool) → is_thing kind ≡ b → cond b (get_or p.counts kind 0) 0 ≤ at
    go true e = h kind (leb-true 3 kind (both_left (leb 3 kind) (leb kind 7) e))
    go false e = omega arith

pub picked : {A : Type 0} (P : A → Type 0) (b : Bool) {x y : A} → P x → P y → P (cond b x y)
picked P true p q = p
picked P false p q = q

-- how many elements the arrays have
abbrev pub sizes_of : Plan → List ℕ
sizes_of p = length p.modules ∷ length p.modes ∷ length p.tasks ∷ length p.invocations ∷ length p.connections ∷ []

-- a record changes none of them
pub sizes_kept : (p : Plan) (r : Rec) → sizes_of (with_record p r) ≡ sizes_of p
unfolding with_record with_bus with_nodes with_module with_mode with_task with_invocation with_connection
sizes_kept p r =
    let Kept : Plan → Type 0 = λ q. sizes_of q ≡ sizes_of p in
    picked Kept (rules.is_bus_record r) refl
    (picked Kept (eqb r.kind 2) refl
    (picked Kept (eqb r.kind 3) (rw (length-set p.modules (count_seen p 3) _))
    (picked Kept (eqb r.kind 4) (rw (length-set p.modes (count_seen p 4) _))
    (picked Kept (eqb r.kind 5) (rw (length-set p.tasks (count_seen p 5) _))
    (picked Kept (eqb r.kind 6) (rw (length-set p.invocations (count_seen p 6) _))
    (picked Kept (eqb r.kind 7) (rw (length-set p.connections (count_seen p 7) _)) refl))))))

-- none of 1 to 7 and 9, as the arms of a `match` leave it
abbrev pub Other : ℕ → Type 0
Other x = (((((((Unit {0} × (x ≡ 1 → ⊥)) × (x ≡ 9 → ⊥)) × (x ≡ 2 → ⊥)) × (x ≡ 3 → ⊥)) × (x ≡ 4 → ⊥)) × (x ≡ 5 → ⊥)) × (x ≡ 6 → ⊥)) × (x ≡ 7 → ⊥)

no-thing : (k : ℕ) → (k ≡ 7 → ⊥) → (k ≡ 6 → ⊥) → (k ≡ 5 → ⊥) → (k ≡ 4 → ⊥) → (k ≡ 3 → ⊥) → is_thing k ≡ false
unfolding is_thing
no-thing zero a b c d e = refl
no-thing (suc zero) a b c d e = refl
no-thing (suc (suc zero)) a b c d e = refl
no-thing (suc (suc (suc zero))) a b c d e = absurd (e refl)
no-thing (suc (suc (suc (suc zero)))) a b c d e = absurd (d refl)
no-thing (suc (suc (suc (suc (suc zero))))) a b c d e = absurd (c refl)
no-thing (suc (suc (suc (suc (suc (suc zero)))))) a b c d e = absurd (b refl)
no-thing (suc (suc (suc (suc (suc (suc (suc zero))))))) a b c d e = absurd (a refl)
no-thing (suc (suc (suc (suc (suc (suc (suc (suc k)))))))) a b c d e =
    rw (le-leb 3 (suc (suc (suc (suc (suc (suc (suc (suc k)))))))) (omega arith), lt-leb (suc (suc (suc (suc (suc (suc (suc (suc k)))))))) 7 (omega arith))

-- ---- stored

module _ (p : Plan) (body counts : List ℕ) where
  pub stored-bus : {kind : ℕ} (b : Bus) → ABus kind → counts ≡ counted_more p.counts kind → b ≡ bus_laid (rules.bus_of (record_of kind body))
      → record { bus = b; counts = counts; modules = p.modules; modes = p.modes; tasks = p.tasks; invocations = p.invocations; connections = p.connections; consumers = p.consumers }
      ≡ with_record p (record_of kind body)
  unfolding with_record with_bus rules.is_bus_record is_bus record_of counted_more is_thing
  stored-bus b plain raised w = rw (raised, w)
  stored-bus b framed raised w = rw (raised, w)

  pub stored-nodes : (x : ℕ) → counts ≡ counted_more p.counts 2 → x ≡ rules.nth (record_of 2 body).numbers 0
      → record { bus = p.bus; counts = set counts 2 x; modules = p.modules; modes = p.modes; tasks = p.tasks; invocations = p.invocations; connections = p.connections; consumers = p.consumers }
      ≡ with_record p (record_of 2 body)
  unfolding with_record rules.is_bus_record is_bus with_nodes record_of counted_more is_thing
  stored-nodes x raised w = rw (raised, w)

  pub stored-module : (n : ℕ) (x : Module) → n ≡ number_of p.counts 3 → counts ≡ counted_more p.counts 3
      → x ≡ module_laid (rules.module_of (record_of 3 body).numbers)
      → record { bus = p.bus; counts = counts; modules = set p.modules n x; modes = p.modes; tasks = p.tasks; invocations = p.invocations; connections = p.connections; consumers = p.consumers }
      ≡ with_record p (record_of 3 body)
  unfolding with_record rules.is_bus_record is_bus with_module one_more count_seen record_of counted_more number_of is_thing
  stored-module n x number raised w = rw (raised, w, number)

  pub stored-mode : (n : ℕ) (x : Mode) → n ≡ number_of p.counts 4 → counts ≡ counted_more p.counts 4
      → x ≡ mode_laid (rules.mode_of (record_of 4 body).numbers)
      → record { bus = p.bus; counts = counts; modules = p.modules; modes = set p.modes n x; tasks = p.tasks; invocations = p.invocations; connections = p.connections; consumers = p.consumers }
      ≡ with_record p (record_of 4 body)
  unfolding with_record rules.is_bus_record is_bus with_mode one_more count_seen record_of counted_more number_of is_thing
  stored-mode n x number raised w = rw (raised, w, number)

  pub stored-task : (n : ℕ) (x : Task) → n ≡ number_of p.counts 5 → counts ≡ counted_more p.counts 5
      → x ≡ task_laid (rules.task_of (record_of 5 body).numbers)
      → record { bus = p.bus; counts = counts; modules = p.modules; modes = p.modes; tasks = set p.tasks n x; invocations = p.invocations; connections = p.connections; consumers = p.consumers }
      ≡ with_record p (record_of 5 body)
  unfolding with_record rules.is_bus_record is_bus with_task one_more count_seen record_of counted_more number_of is_thing
  stored-task n x number raised w = rw (raised, w, number)

  pub stored-invocation : (n : ℕ) (x : Invocation) → n ≡ number_of p.counts 6 → counts ≡ counted_more p.counts 6
      → x ≡ invocation_laid (rules.invocation_of (record_of 6 body).numbers)
      → record { bus = p.bus; counts = counts; modules = p.modules; modes = p.modes; tasks = p.tasks; invocations = set p.invocations n x; connections = p.connections; consumers = p.consumers }
      ≡ with_record p (record_of 6 body)
  unfolding with_record rules.is_bus_record is_bus with_invocation one_more count_seen record_of counted_more number_of is_thing
  stored-invocation n x number raised w = rw (raised, w, number)

  pub stored-connection : (n : ℕ) (x : Connection) → n ≡ number_of p.counts 7 → counts ≡ counted_more p.counts 7
      → x ≡ connection_laid (rules.connection_of (record_of 7 body).numbers)
      → record { bus = p.bus; counts = counts; modules = p.modules; modes = p.modes; tasks = p.tasks; invocations = p.invocations; connections = set p.connections n x; consumers = p.consumers }
      ≡ with_record p (record_of 7 body)
  unfolding with_record rules.is_bus_record is_bus with_connection one_more count_seen record_of counted_more number_of is_thing
  stored-connection n x number raised w = rw (raised, w, number)

  -- a kind that no plan has
  pub stored-nothing : (kind : ℕ) → Other kind → counts ≡ counted_more p.counts kind
      → record { bus = p.bus; counts = counts; modules = p.modules; modes = p.modes; tasks = p.tasks; invocations = p.invocations; connections = p.connections; consumers = p.consumers }
      ≡ with_record p (record_of kind body)
  unfolding with_record rules.is_bus_record is_bus record_of counted_more
  stored-nothing kind h raised =
      rw (
        raised,
        no-thing kind h.1 h.0.1 h.0.0.1 h.0.0.0.1 h.0.0.0.0.1,
        ne_eqb kind 1 h.0.0.0.0.0.0.0.1,
        ne_eqb kind 9 h.0.0.0.0.0.0.1,
        ne_eqb kind 2 h.0.0.0.0.0.1,
        ne_eqb kind 3 h.0.0.0.0.1,
        ne_eqb kind 4 h.0.0.0.1,
        ne_eqb kind 5 h.0.0.1,
        ne_eqb kind 6 h.0.1,
        ne_eqb kind 7 h.1,
      )
