-- The connections left of a plan, one by one: what the tables say of a connection, and what one more makes of those in memory.
use mathlib.Core.Path.{◌≡◌, sym, ap, ◌∙◌}
use mathlib.Core.Bool.{Bool, true, false, not, ◌&&◌}
use mathlib.Core.List.{List, [], ◌∷◌, ◌++◌, map}
use native.Mathlib.Omega.{arith}
use lib.Dec.{eqb}
use lib.ListN.{length, get_or, set, take, replicate, length-map, length-take}
use Prim.Native.Nat.{ℕ, ◌+◌, ◌≤◌, ◌<◌}
use Rattle.laws.specs.Lists.{keep}
use Rattle.laws.proofs.Lists.{take_more, map_snoc, keep_snoc_yes, keep_snoc_no, length-keep, length_snoc, pad_to-none, pad_to_snoc}
use Rattle.plan.specs.declared.Plan as laid
use Rattle.plan.specs.declared.Connection as memory
use Rattle.plan.specs.Memory.{connection_laid, lay_out, seen}
use Rattle.rules.specs.Plan.{Plan, Connection, no_connection}
use Rattle.rules.specs.Traffic.{task_node, is_invoked, is_left, plan_in}
use Rattle.bus.specs.Senders.{by_number, invoked_by}
use Rattle.bus.specs.Edition.{left_laid}
use Rattle.bus.specs.declared.edition.Left.{Left}
use Rattle.bus.proofs.Tables.{at-number}

-- so many connections, in this array
abbrev pub left_with : ℕ → List memory.Connection → Left
left_with n a = record { count = n; connections = a }

left_snoc : (cs : List Connection) (c : Connection) (n : ℕ) (a : List memory.Connection) → left_with n a ≡ left_laid cs → left_with (n + 1) (set a n (connection_laid c)) ≡ left_laid (cs ++ (c ∷ []))
unfolding left_laid
left_snoc cs c n a e =
    ap (λ (l : Left). left_with (l.count + 1) (set l.connections l.count (connection_laid c))) e
    ∙ rw (length_snoc cs c, map_snoc connection_laid cs c, pad_to_snoc 64 (connection_laid no_connection) (map connection_laid cs) (connection_laid c), length-map cs connection_laid)

pub left-none : (q : Plan) → left_with 0 (replicate 64 (connection_laid no_connection)) ≡ left_laid (keep (is_left q) [])
unfolding left_laid
left-none q = rw (pad_to-none 64 (connection_laid no_connection))

module _ (q : Plan) (i n : ℕ) (a : List memory.Connection) (e : left_with n a ≡ left_laid (keep (is_left q) (take i q.connections))) where
  pub left-few : i ≤ length q.connections → n ≤ i
  unfolding left_laid
  left-few w =
      let k : length (keep (is_left q) (take i q.connections)) ≤ length (take i q.connections) = length-keep (is_left q) (take i q.connections) in
      omega (arith, ap (λ (l : Left). l.count) e, length-take i q.connections)

  module _ {x : Connection} (w : i < length q.connections) (here : get_or q.connections i no_connection ≡ x) where
    pub left_more : is_left q x ≡ true → left_with (n + 1) (set a n (connection_laid x)) ≡ left_laid (keep (is_left q) (take (i + 1) q.connections))
    left_more y =
        left_snoc (keep (is_left q) (take i q.connections)) x n a e
        ∙ ap left_laid (sym (rw (take_more q.connections i no_connection w, here) (keep_snoc_yes (is_left q) (take i q.connections) x y)))

    pub left-kept : is_left q x ≡ false → left_with n a ≡ left_laid (keep (is_left q) (take (i + 1) q.connections))
    left-kept y =
        e ∙ ap left_laid (sym (rw (take_more q.connections i no_connection w, here) (keep_snoc_no (is_left q) (take i q.connections) x y)))

-- what the tables say of a connection
pub left_is : (q : Plan) (x : Connection) {nodes : List ℕ} {invoked : List Bool} {b : Bool} {t u : ℕ} → nodes ≡ by_number (task_node q) → invoked ≡ by_number (invoked_by q.invocations) → t < 256 → u < 256 → t ≡ x.producer → u ≡ x.consumer
    → b ≡ (not (eqb (get_or nodes u 0) (get_or nodes t 0)) && (get_or invoked t false && get_or invoked u false)) → is_left q x ≡ b
unfolding is_left is_invoked invoked_by
left_is q x {t = t} {u} e f v w r s h =
    sym (h ∙ rw (e, f, at-number (task_node q) t 0 v, at-number (task_node q) u 0 w, at-number (invoked_by q.invocations) t false v, at-number (invoked_by q.invocations) u false w, r, s))

-- ---- the plan with the connections left

abbrev with_left : laid.Plan → Left → laid.Plan
with_left p l =
    record {
      bus = p.bus;
      counts = set p.counts 7 l.count;
      modules = p.modules;
      modes = p.modes;
      tasks = p.tasks;
      invocations = p.invocations;
      connections = l.connections;
      consumers = true;
    }

pub consumers-laid : (p : laid.Plan) {l : Left} → p ≡ lay_out (seen p) → l ≡ left_laid (keep (is_left (seen p)) (seen p).connections) → with_left p l ≡ lay_out (plan_in true (seen p))
unfolding lay_out left_laid
consumers-laid p {l} e h = ap (λ (x : laid.Plan). with_left x l) e ∙ ap (with_left (lay_out (seen p))) h
