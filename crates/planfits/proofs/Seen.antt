-- What the scans look at in a plan in memory is what the rules look at in the plan that is seen.
use Rattle.std.proofs.Common.{◌≡◌, refl, sym, ap, ◌∙◌, Bool, true, false, not, ℕ, suc, zero, List, [], ◌∷◌, map, length, get_or, take, ◌≤◌, arith}
use Rattle.std.specs.Prelude.{Option}
use Rattle.std.specs.List.{list_any, position}
use lib.ListN.{get_or-map}
use Rattle.laws.specs.Lists.{any, first_bad, is_fresh}
use Rattle.rules.specs.Plan as rules
use Rattle.places.specs.Spot.{spot_of}
use Rattle.plan.specs.declared.Plan.{Plan}
use Rattle.plan.specs.declared.Mode.{Mode}
use Rattle.plan.specs.declared.Task.{Task}
use Rattle.plan.specs.declared.Invocation.{Invocation}
use Rattle.plan.specs.declared.Connection.{Connection}
use Rattle.plan.specs.Memory.{seen, count_seen, module_seen, mode_seen, mode_laid, task_seen, task_laid, invocation_seen, invocation_laid, connection_seen, connection_laid}
use Rattle.plan.proofs.Parts.{part_again, part_length}
use Rattle.plan.proofs.Sizes.{Sizes}
use Rattle.planfits.specs.Fits.{fits_these}
use Rattle.planfits.proofs.Chains.{any_seen, bad_seen}

map-take : {A B : Type 0} (f : A → B) (k : ℕ) (l : List A) → map f (take k l) ≡ take k (map f l)
map-take f zero l = refl
map-take f (suc k) [] = refl
map-take f (suc k) (x ∷ l) = ap (λ (r : List _). f x ∷ r) (map-take f k l)

-- a part of an array, and the things that are seen there
module _ {A B : Type 0} (f : A → B) (part : List A) (xs : List B) (again : map f part ≡ xs) (d : A) (k : ℕ) where
  pub element : f (get_or part k d) ≡ get_or xs k (f d)
  element = sym (get_or-map f part k d) ∙ ap (λ (l : List B). get_or l k (f d)) again

  pub fresh : (like : B → B → Bool) {r : Bool} → r ≡ list_any (λ x. like (f (get_or part k d)) (f x)) (take k part)
      → is_fresh like (f d) xs k ≡ not r
  fresh like {r} e =
      let earlier : map f (take k part) ≡ take k xs = map-take f k part ∙ ap (take k) again in
      sym (ap not (e ∙ any_seen (like (f (get_or part k d))) f (take k part) ∙ ap (any (like (f (get_or part k d)))) earlier
      ∙ ap (λ (x : B). any (like x) (take k xs)) element))

module _ (p : Plan) (n : ℕ) where
  module _ (e : n ≡ length (seen p).modes) where
    modes-again : map mode_seen (take n p.modes) ≡ (seen p).modes
    unfolding seen
    modes-again = rw e (part_again mode_seen (count_seen p 4) p.modes)

    pub has-mode : (m : ℕ) {r : Bool} → r ≡ list_any (λ x. rules.is_home m (mode_seen x)) (take n p.modes) → rules.has_mode (seen p) m ≡ r
    unfolding rules.has_mode
    has-mode m h = sym (h ∙ any_seen (rules.is_home m) mode_seen (take n p.modes) ∙ ap (any (rules.is_home m)) modes-again)

    pub bad-switch : {r : Option ℕ} → r ≡ position (λ x. not (rules.switch_divides (mode_seen x))) (take n p.modes)
        → r ≡ spot_of (first_bad rules.switch_divides (seen p).modes)
    bad-switch h =
        h ∙ bad_seen rules.switch_divides mode_seen (take n p.modes)
        ∙ ap (λ (l : List rules.Mode). spot_of (first_bad rules.switch_divides l)) modes-again

    pub the-mode : (m : ℕ) {μ z : Mode} → z ≡ mode_laid rules.no_mode → μ ≡ get_or (take n p.modes) m z → mode_seen μ ≡ rules.the_mode (seen p) m
    unfolding rules.the_mode mode_laid mode_seen
    the-mode m zero-is h = rw (h, zero-is) (element mode_seen (take n p.modes) (seen p).modes modes-again (mode_laid rules.no_mode) m)

  module _ (e : n ≡ length (seen p).tasks) where
    tasks-again : map task_seen (take n p.tasks) ≡ (seen p).tasks
    unfolding seen
    tasks-again = rw e (part_again task_seen (count_seen p 5) p.tasks)

    pub the-task : (m : ℕ) {t z : Task} → z ≡ task_laid rules.no_task → t ≡ get_or (take n p.tasks) m z → task_seen t ≡ rules.the_task (seen p) m
    unfolding rules.the_task task_laid task_seen
    the-task m zero-is h = rw (h, zero-is) (element task_seen (take n p.tasks) (seen p).tasks tasks-again (task_laid rules.no_task) m)

  module _ (e : n ≡ length (seen p).invocations) (k : ℕ) where
    invocations-again : map invocation_seen (take n p.invocations) ≡ (seen p).invocations
    unfolding seen
    invocations-again = rw e (part_again invocation_seen (count_seen p 6) p.invocations)

    abbrev run : Invocation
    run = get_or (take n p.invocations) k (invocation_laid rules.no_invocation)

    run-is : invocation_seen run ≡ rules.the_invocation (seen p) k
    unfolding rules.the_invocation invocation_laid invocation_seen
    run-is = element invocation_seen (take n p.invocations) (seen p).invocations invocations-again (invocation_laid rules.no_invocation) k

    -- the tests of the k-th invocation, as the code makes them
    pub record Tested (fits : Bool) : Type 0 where
      pub mode : Mode
      pub task : Task
      pub mode_is : mode_seen mode ≡ rules.the_mode (seen p) run.mode.0
      pub task_is : task_seen task ≡ rules.the_task (seen p) run.task.0
      pub fits_is : fits ≡ fits_these run.rate (mode_seen mode) (task_seen task)

    fits-is : {fits : Bool} → Tested fits → rules.fits_its_mode (seen p) (rules.the_invocation (seen p) k) ≡ fits
    unfolding rules.fits_its_mode rules.period_of fits_these invocation_seen
    fits-is t = rw (← run-is, t.fits_is, t.mode_is, t.task_is)

    pub unfit : Tested false → rules.invocation_keeps (seen p) k ≡ false
    unfolding rules.invocation_keeps
    unfit t = rw (fits-is t)

    pub repeated : {r : Bool} → Tested true
        → r ≡ list_any (λ x. rules.same_run (invocation_seen run) (invocation_seen x)) (take k (take n p.invocations))
        → rules.invocation_keeps (seen p) k ≡ not r
    unfolding rules.invocation_keeps invocation_laid invocation_seen
    repeated t h =
        rw (fits-is t)
        (fresh invocation_seen (take n p.invocations) (seen p).invocations invocations-again (invocation_laid rules.no_invocation) k rules.same_run h)

  module _ (e : n ≡ length (seen p).connections) (k : ℕ) where
    connections-again : map connection_seen (take n p.connections) ≡ (seen p).connections
    unfolding seen
    connections-again = rw e (part_again connection_seen (count_seen p 7) p.connections)

    abbrev join : Connection
    join = get_or (take n p.connections) k (connection_laid rules.no_connection)

    own-is : {own : Bool} → own ≡ rules.is_own (connection_seen join) → rules.is_own (get_or (seen p).connections k rules.no_connection) ≡ own
    unfolding connection_laid connection_seen
    own-is h =
        sym (h ∙ ap rules.is_own (element connection_seen (take n p.connections) (seen p).connections connections-again (connection_laid rules.no_connection) k))

    pub own-doubtful : true ≡ rules.is_own (connection_seen join) → rules.connection_keeps (seen p).connections k ≡ false
    unfolding rules.connection_keeps
    own-doubtful h = rw (own-is h)

    pub ends-doubtful : {r : Bool} → false ≡ rules.is_own (connection_seen join)
        → r ≡ list_any (λ x. rules.same_ends (connection_seen join) (connection_seen x)) (take k (take n p.connections))
        → rules.connection_keeps (seen p).connections k ≡ not r
    unfolding rules.connection_keeps connection_laid connection_seen
    ends-doubtful h q =
        rw (own-is h)
        (fresh connection_seen (take n p.connections) (seen p).connections connections-again (connection_laid rules.no_connection) k rules.same_ends q)

-- no more of each kind than have a place
pub record Few (p : Plan) : Type 0 where
  pub modules : length (seen p).modules ≤ 16
  pub invocations : length (seen p).invocations ≤ 64
  pub connections : length (seen p).connections ≤ 64

pub few : (p : Plan) → Sizes p → Few p
unfolding seen
few p h =
    record {
      modules = omega (arith, part_length module_seen (count_seen p 3) p.modules 16 h.modules);
      invocations = omega (arith, part_length invocation_seen (count_seen p 6) p.invocations 64 h.invocations);
      connections = omega (arith, part_length connection_seen (count_seen p 7) p.connections 64 h.connections);
    }
