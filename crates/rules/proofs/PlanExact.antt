-- PlanExact: each test of 2 to 11 means its rule (specs/ObeysPlan), so a plan is read exactly where its bytes are records that keep 2 to 5,
-- and laid out exactly where it keeps 6 to 11; else the number given is that of the first rule that is broken, at its lowest place.
use mathlib.Core.Path.{◌≡◌, refl, sym, ap, ◌∙◌}
use mathlib.Core.Bool.{Bool, ◌&&◌}
use mathlib.Core.List.{List, [], ◌∷◌}
use mathlib.Core.Logic.{◌↔◌}
use native.Mathlib.Nat.{not-suc-le-zero, le_of_suc-le-suc, suc_inj}
use native.Mathlib.Omega.{arith}
use lib.Dec.{eqb, leb}
use lib.ListN.{length, get_or}
use Prim.Native.Nat.{ℕ, zero, suc, ◌+◌, ◌≤◌, ◌<◌, zero-le, suc-le-suc}
use Rattle.laws.specs.Res.{Res, ok, refuse, ◌>>◌, unless, at}
use Rattle.laws.specs.Lists.{first_bad, up_to}
use Rattle.laws.specs.Numbers.{divides}
use Rattle.laws.specs.Faults.{AllKept, FirstFault}
use Rattle.laws.proofs.Tests.{Tests, by_iff, by_and, by_or, by_not, by_where, by_any, by_fresh, by_any-up_to, by_all-keep-up_to, by_eq, by_le, by_lt, by_divides}
use Rattle.laws.proofs.Res.{refuse≢ok, ok_injective, bind_case, then_case, bind_refused, then_refused, then_assoc}
use Rattle.laws.proofs.Faults.{Exact, exact_rule, exact_list, exact_once, exact_then}
use Rattle.laws.proofs.Members.{All, empty, also, all_get_d}
use Rattle.rules.specs.Limits.{most_frames}
use Rattle.rules.specs.Records.{Field, names, ranges, free, fields, Rec, decoded, record_of, records, is_bus, plan_follows}
use Rattle.rules.specs.Plan.{
  Plan,
  nth,
  least_counts,
  most_counts,
  payloads_ordered,
  no_mode,
  no_invocation,
  no_connection,
  the_mode,
  the_task,
  the_invocation,
  the_connection,
  period_of,
  is_home,
  has_mode,
  switch_divides,
  fits_its_mode,
  same_run,
  invocation_keeps,
  is_own,
  same_ends,
  connection_keeps,
  first_mode,
  first_invocation,
  first_connection,
  is_bus_record,
  zero_record,
  plan_of,
  count,
  count_fits,
  each_number,
  is_there,
  names_are_there,
  is_within,
  numbers_are_within,
  rule5,
  read_plan,
}
use Rattle.rules.specs.Traffic.{task_node, invokes, leaves, is_bus_task, bus_tasks, control_payload, is_sending_node, sending_nodes, traffic}
use Rattle.rules.specs.Frames.{Layout, pairs, control_end, some_bus_task, message_fits, control_fits, payloads_fit, layout_of, layout}
use Rattle.rules.specs.Obeys.{AreRecords, the_end, one_more}
use Rattle.rules.specs.ObeysPlan.{
  CountFits,
  field_at,
  NamesThere,
  NumbersWithin,
  HasMode,
  SwitchDivides,
  InvocationFits,
  ConnectionFits,
  record_at,
  plan_rules,
  ReadsAs,
  ReadFault,
  of_bytes,
  of_rules,
  IsBusTask,
  SomeBusTask,
  PayloadsFit,
  layout_rules,
}
use Rattle.rules.proofs.RecordsExact.{records_exact, records-refused}

-- ---- the bodies of a file that is read have as many numbers as their kinds have fields

abbrev pub Sized : Rec → Type 0
Sized r = length r.numbers ≡ length (fields r.kind)

length-decoded : (fs : List Field) (body : List ℕ) → length (decoded fs body) ≡ length fs
length-decoded [] body = refl
length-decoded (f ∷ fs) body = ap suc (length-decoded fs _)

pub are_sized : {follows : ℕ → ℕ → Bool} {previous : ℕ} {file : List ℕ} {rs : List Rec} → AreRecords follows previous file rs → All Sized rs
unfolding record_of
are_sized (the_end s e) = empty
are_sized (one_more {kind = kind} body s z b e r) = also (length-decoded (fields kind) body) (are_sized r)

-- ---- 2

count_means : (rs : List Rec) (k : ℕ) → Tests (count_fits rs k) (CountFits rs k)
unfolding count_fits
count_means rs k =
    by_iff (by_and (by_le (nth least_counts k) (count rs (2 + k))) (by_le (count rs (2 + k)) (nth most_counts k)))
    (λ h. record { enough = h.0; few = h.1 })
    (λ h. (h.enough, h.few))

-- ---- 3 and 4: a test of each number of a body

module _ (test : Field → ℕ → Bool) {P : Field → ℕ → Type 0} (means : (f : Field) (x : ℕ) → Tests (test f x) (P f x)) where
  abbrev Each : List Field → List ℕ → Type 0
  Each fs b = (k : ℕ) → k < length fs → P (get_or fs k (free 0)) (nth b k)

  first-and-rest : (f : Field) (fs : List Field) (x : ℕ) (b : List ℕ) → P f x × Each fs b → Each (f ∷ fs) (x ∷ b)
  first-and-rest f fs x b h zero w = h.0
  first-and-rest f fs x b h (suc k) w = h.1 k (le_of_suc-le-suc w)

  each_means : (fs : List Field) (b : List ℕ) → length b ≡ length fs → Tests (each_number test fs b) (Each fs b)
  each_means [] b l = record { says = λ e k w. absurd (not-suc-le-zero w); passes = λ h. refl }
  each_means (f ∷ fs) [] l = absurd (omega (arith, l))
  each_means (f ∷ fs) (x ∷ b) l =
      by_iff (by_and (means f x) (each_means fs b (suc_inj l)))
      (first-and-rest f fs x b)
      (λ h. (h 0 (suc-le-suc zero-le), λ k w. h (suc k) (suc-le-suc w)))

there_means : (counts : ℕ → ℕ) (f : Field) (x : ℕ) → Tests (is_there counts f x) ((kind : ℕ) → f ≡ names kind → x < counts kind)
there_means counts (names k) x =
    by_iff (by_lt x (counts k)) (λ h kind e. let same : k ≡ kind = cc in rw (← same) h) (λ h. h k refl)
there_means counts (ranges w low high) x =
    record { says = λ e kind q. let z : ◌≡◌ {A = ℕ} 0 1 = cc in absurd (omega arith); passes = λ h. refl }
there_means counts (free w) x =
    record { says = λ e kind q. let z : ◌≡◌ {A = ℕ} 0 1 = cc in absurd (omega arith); passes = λ h. refl }

within_means : (f : Field) (x : ℕ)
    → Tests (is_within f x) ((wide low high : ℕ) → f ≡ ranges wide low high → (low ≤ x) × (x ≤ high))
within_means (names k) x =
    record { says = λ e wide low high q. let z : ◌≡◌ {A = ℕ} 0 1 = cc in absurd (omega arith); passes = λ h. refl }
within_means (ranges w low high) x =
    by_iff (by_and (by_le low x) (by_le x high))
    (λ h wide l m e. let a : low ≡ l = cc in let b : high ≡ m = cc in (rw (← a) h.0, rw (← b) h.1))
    (λ h. h w low high refl)
within_means (free w) x =
    record { says = λ e wide low high q. let z : ◌≡◌ {A = ℕ} 0 1 = cc in absurd (omega arith); passes = λ h. refl }

names_mean : (rs : List Rec) (r : Rec) → Sized r → Tests (names_are_there (count rs) r) (NamesThere rs r)
unfolding names_are_there field_at
names_mean rs r s =
    by_iff (each_means (is_there (count rs)) (there_means (count rs)) (fields r.kind) r.numbers s)
    (λ h k kind w e. h k w kind e)
    (λ h k w kind e. h k kind w e)

numbers_mean : (r : Rec) → Sized r → Tests (numbers_are_within r) (NumbersWithin r)
unfolding numbers_are_within payloads_ordered is_bus_record is_bus field_at
numbers_mean r s =
    by_iff
    (by_and (each_means is_within within_means (fields r.kind) r.numbers s)
    (by_where (by_or (by_eq r.kind 1) (by_eq r.kind 9)) (by_le (nth r.numbers 2) (nth r.numbers 3))))
    (λ h. record {
      least = λ k wide low high w e. (h.0 k w wide low high e).0;
      most = λ k wide low high w e. (h.0 k w wide low high e).1;
      payloads = h.1;
    })
    (λ h. (λ k w wide low high e. (h.least k wide low high w e, h.most k wide low high w e), h.payloads))

-- ---- 5

-- two numbers are the same as two others
same_two : (a b c d : ℕ) → Tests (eqb a b && eqb c d) ((b ≡ a) × (d ≡ c))
same_two a b c d = by_iff (by_and (by_eq a b) (by_eq c d)) (λ h. (sym h.0, sym h.1)) (λ h. (sym h.0, sym h.1))

module _ (p : Plan) where
  mode_means : (m : ℕ) → Tests (has_mode p m) (HasMode p m)
  unfolding has_mode is_home the_mode
  mode_means m =
      by_iff (by_any (is_home m) p.modes no_mode (λ k w. by_eq (the_mode p k).home m))
      (λ h. record { mode = h.0; there = h.1; own = h.2 })
      (λ h. (h.mode, h.there, h.own))

  switch_means : (μ : ℕ) → Tests (switch_divides (get_or p.modes μ no_mode)) (SwitchDivides p μ)
  unfolding switch_divides the_mode
  switch_means μ = by_divides (the_mode p μ).switch (the_mode p μ).period

  invocation_means : (k : ℕ) → k < length p.invocations → Tests (invocation_keeps p k) (InvocationFits p k)
  unfolding invocation_keeps fits_its_mode same_run the_invocation
  invocation_means k w =
      let i = the_invocation p k in
      let μ = the_mode p i.mode in
      let t = the_task p i.task in
      by_iff
      (by_and
      (by_and (by_and (by_divides i.rate μ.period) (by_divides (period_of p i) μ.switch))
      (by_and (by_le t.worst (period_of p i)) (by_eq t.home μ.home)))
      (by_fresh same_run no_invocation p.invocations k (omega arith)
      (λ j v. same_two i.mode (the_invocation p j).mode i.task (the_invocation p j).task)))
      (λ h. record {
        rate = h.0.0.0;
        period = h.0.0.1;
        worst = h.0.1.0;
        home = h.0.1.1;
        once = λ j v a b. h.1 j v (a, b);
      })
      (λ h. (((h.rate, h.period), (h.worst, h.home)), λ j v q. h.once j v q.0 q.1))

  pub connection_means : (k : ℕ) → k < length p.connections → Tests (connection_keeps p.connections k) (ConnectionFits p k)
  unfolding connection_keeps is_own same_ends the_connection
  connection_means k w =
      let c = the_connection p k in
      by_iff
      (by_and (by_not (by_eq c.producer c.consumer))
      (by_fresh same_ends no_connection p.connections k (omega arith)
      (λ j v. same_two c.producer (the_connection p j).producer c.consumer (the_connection p j).consumer)))
      (λ h. record { apart = h.0; once = λ j v a b. h.1 j v (a, b) })
      (λ h. (h.apart, λ j v q. h.once j v q.0 q.1))

-- ---- 2 to 5 in order

module _ (rs : List Rec) where
  -- what is asked of the records, without the plan
  abbrev judged_plan : Res (Unit {0})
  judged_plan =
      ◌>>◌ (at 2 2 (first_bad (count_fits rs) (up_to 6)))
      (◌>>◌ (at 3 0 (first_bad (names_are_there (count rs)) rs)) (◌>>◌ (at 4 0 (first_bad numbers_are_within rs)) (rule5 (plan_of rs))))

  plan-judged : All Sized rs → Exact judged_plan (plan_rules rs)
  unfolding rule5 record_at
  plan-judged sized =
      let p = plan_of rs in
      let size : (k : ℕ) → k < length rs → Sized (record_at rs k) = λ k w. all_get_d zero_record sized k w in
      exact_then (exact_rule (record { number = 2; first = 2; places = 6; asks = CountFits rs }) (count_fits rs) (λ k w. count_means rs k)) λ h₂.
      exact_then (exact_list 3 0 (λ k. NamesThere rs (record_at rs k)) rs zero_record (names_are_there (count rs)) (λ k w. names_mean rs (record_at rs k) (size k w))) λ h₃.
      exact_then (exact_list 4 0 (λ k. NumbersWithin (record_at rs k)) rs zero_record numbers_are_within (λ k w. numbers_mean (record_at rs k) (size k w))) λ h₄.
      exact_then
      (exact_rule (record { number = 5; first = 2; places = length p.modules; asks = HasMode p }) (has_mode p) (λ m w. mode_means p m)) λ h₅.
      exact_then (exact_list 5 (first_mode p) (SwitchDivides p) p.modes no_mode switch_divides (λ μ w. switch_means p μ)) λ h₆.
      exact_then
      (exact_rule
      (record { number = 5; first = first_invocation p; places = length p.invocations; asks = InvocationFits p })
      (invocation_keeps p)
      (invocation_means p)) λ h₇.
      exact_rule
      (record { number = 5; first = first_connection p; places = length p.connections; asks = ConnectionFits p })
      (connection_keeps p.connections)
      (connection_means p)

  grouped : ◌>>◌ judged_plan (ok (plan_of rs))
      ≡ ◌>>◌ (at 2 2 (first_bad (count_fits rs) (up_to 6)))
      (◌>>◌ (at 3 0 (first_bad (names_are_there (count rs)) rs))
      (◌>>◌ (at 4 0 (first_bad numbers_are_within rs)) (◌>>◌ (rule5 (plan_of rs)) (ok (plan_of rs)))))
  grouped =
      then_assoc (at 2 2 (first_bad (count_fits rs) (up_to 6))) _ (ok (plan_of rs))
      ∙ ap (◌>>◌ (at 2 2 (first_bad (count_fits rs) (up_to 6))))
      (then_assoc (at 3 0 (first_bad (names_are_there (count rs)) rs)) _ (ok (plan_of rs))
      ∙ ap (◌>>◌ (at 3 0 (first_bad (names_are_there (count rs)) rs)))
      (then_assoc (at 4 0 (first_bad numbers_are_within rs)) (rule5 (plan_of rs)) (ok (plan_of rs))))

module _ (file : List ℕ) where
  read-says : (p : Plan) → read_plan file ≡ ok p → ReadsAs file p
  unfolding read_plan
  read-says p e =
      bind_case (records plan_follows 1 file) _ e λ rs reads e₁.
      let are = (records_exact plan_follows 1 file rs).0 reads in
      then_case (judged_plan rs) (ok (plan_of rs)) (grouped rs ∙ e₁) λ _ judged e₂.
      record { rows = rs; are_rows = are; kept = (plan-judged rs (are_sized are)).says judged; is = ok_injective e₂ }

  reads_so : (p : Plan) → ReadsAs file p → read_plan file ≡ ok p
  unfolding read_plan
  reads_so p h =
      rw ((records_exact plan_follows 1 file h.rows).1 h.are_rows)
      (sym (grouped h.rows) ∙ rw ((plan-judged h.rows (are_sized h.are_rows)).passes h.kept, h.is))

  -- a plan is read exactly where the bytes are records that keep 2 to 5, and it is theirs
  pub read_exact : (p : Plan) → (read_plan file ≡ ok p) ↔ ReadsAs file p
  read_exact p = (read-says p, reads_so p)

  refused_says : (n q : ℕ) → read_plan file ≡ refuse n q → ReadFault file n q
  unfolding read_plan
  refused_says n q e =
      bind_refused (records plan_follows 1 file) _ e (λ f. let b = (records-refused plan_follows 1 file n q).0 f in of_bytes b.0 b.1) λ rs reads e₁.
      let are = (records_exact plan_follows 1 file rs).0 reads in
      then_refused (judged_plan rs) (ok (plan_of rs)) (grouped rs ∙ e₁)
      (λ f. of_rules are ((plan-judged rs (are_sized are)).refuses n q f))
      (λ _ _ f. refuse≢ok (sym f))

  refused_so : (n q : ℕ) → ReadFault file n q → read_plan file ≡ refuse n q
  unfolding read_plan
  refused_so n q (of_bytes e b) = rw ((records-refused plan_follows 1 file n q).1 (e, b))
  refused_so n q (of_rules {rs} are f) =
      rw ((records_exact plan_follows 1 file rs).1 are)
      (sym (grouped rs) ∙ rw ((plan-judged rs (are_sized are)).refused n q f))

  -- a plan is refused with n at q exactly where that is its first fault
  pub read-refused : (n q : ℕ) → (read_plan file ≡ refuse n q) ↔ ReadFault file n q
  read-refused n q = (refused_says n q, refused_so n q)

-- ---- 6 to 11

module _ (p : Plan) where
  bus_means : (t : ℕ) → Tests (is_bus_task p t) (IsBusTask p t)
  unfolding is_bus_task invokes leaves the_invocation the_connection
  bus_means t =
      by_iff
      (by_and (by_any (invokes t) p.invocations no_invocation (λ k w. by_eq (the_invocation p k).task t))
      (by_any (leaves p t) p.connections no_connection
      (λ c w. by_and (by_eq (the_connection p c).producer t)
      (by_not (by_eq (task_node p (the_connection p c).consumer) (task_node p t))))))
      (λ h. record {
        invocation = h.0.0;
        is_invocation = h.0.1;
        runs = h.0.2;
        connection = h.1.0;
        is_connection = h.1.1;
        comes = h.1.2.0;
        leaves = h.1.2.1;
      })
      (λ h. ((h.invocation, h.is_invocation, h.runs), (h.connection, h.is_connection, (h.comes, h.leaves))))

  pub some_means : Tests (some_bus_task p) (SomeBusTask p)
  unfolding some_bus_task
  some_means =
      by_iff (by_any-up_to (is_bus_task p) (length p.tasks) (λ t w. bus_means t))
      (λ h. record { task = h.0; there = h.1; on_bus = h.2 })
      (λ h. (h.task, h.there, h.on_bus))

  pub payloads_mean : Tests (payloads_fit p) (PayloadsFit p)
  unfolding payloads_fit bus_tasks sending_nodes message_fits is_sending_node control_fits
  payloads_mean =
      by_iff
      (by_and
      (by_all-keep-up_to (is_bus_task p) (message_fits p) (length p.tasks) (λ t w. bus_means t) (λ t w. by_le (the_task p t).size p.bus.most))
      (by_all-keep-up_to (is_sending_node p) (control_fits p) p.nodes (λ n w. by_lt 0 (control_payload p n))
      (λ n w. by_le (control_payload p n) p.bus.most)))
      (λ h. record { messages = h.0; control = h.1 })
      (λ h. (h.messages, h.control))

  -- the tests alone, and what follows the first of them
  abbrev from11 : Res (Unit {0})
  from11 = unless 11 0 (leb (control_end p) (traffic p).period)

  abbrev from10 : Res (Unit {0})
  from10 = ◌>>◌ (unless 10 0 (payloads_fit p)) from11

  abbrev from9 : Res (Unit {0})
  from9 = ◌>>◌ (unless 9 0 (leb (length (pairs p)) most_frames)) from10

  abbrev from8 : Res (Unit {0})
  from8 = ◌>>◌ (unless 8 0 (divides p.bus.resolution (traffic p).period)) from9

  abbrev from7 : Res (Unit {0})
  from7 = ◌>>◌ (unless 7 0 (divides (traffic p).period (traffic p).grid)) from8

  abbrev from6 : Res (Unit {0})
  from6 = ◌>>◌ (unless 6 0 (some_bus_task p)) from7

  layout-judged : Exact from6 (layout_rules p)
  layout-judged =
      exact_then (exact_once 6 0 some_means) λ h₆.
      exact_then (exact_once 7 0 (by_divides (traffic p).period (traffic p).grid)) λ h₇.
      exact_then (exact_once 8 0 (by_divides p.bus.resolution (traffic p).period)) λ h₈.
      exact_then (exact_once 9 0 (by_le (length (pairs p)) most_frames)) λ h₉.
      exact_then (exact_once 10 0 payloads_mean) λ h₁₀.
      exact_once 11 0 (by_le (control_end p) (traffic p).period)

  layout_grouped : ◌>>◌ from6 (ok (layout_of p)) ≡ layout p
  unfolding layout traffic
  layout_grouped =
      rw (
        then_assoc (unless 6 0 (some_bus_task p)) from7 (ok (layout_of p)),
        then_assoc (unless 7 0 (divides (traffic p).period (traffic p).grid)) from8 (ok (layout_of p)),
        then_assoc (unless 8 0 (divides p.bus.resolution (traffic p).period)) from9 (ok (layout_of p)),
        then_assoc (unless 9 0 (leb (length (pairs p)) most_frames)) from10 (ok (layout_of p)),
        then_assoc (unless 10 0 (payloads_fit p)) from11 (ok (layout_of p)),
      )

  laid-says : (l : Layout) → layout p ≡ ok l → AllKept (layout_rules p) × (layout_of p ≡ l)
  laid-says l e =
      then_case from6 (ok (layout_of p)) (layout_grouped ∙ e) λ _ judged f. (layout-judged.says judged, ok_injective f)

  laid_so : (l : Layout) → AllKept (layout_rules p) × (layout_of p ≡ l) → layout p ≡ ok l
  laid_so l h = sym layout_grouped ∙ rw (layout-judged.passes h.0, h.1)

  -- a plan is laid out exactly where it keeps 6 to 11
  pub layout_exact : (l : Layout) → (layout p ≡ ok l) ↔ (AllKept (layout_rules p) × (layout_of p ≡ l))
  layout_exact l = (laid-says l, laid_so l)

  unlaid_says : (n q : ℕ) → layout p ≡ refuse n q → FirstFault (layout_rules p) n q
  unlaid_says n q e =
      then_refused from6 (ok (layout_of p)) (layout_grouped ∙ e) (layout-judged.refuses n q) (λ _ _ f. refuse≢ok (sym f))

  unlaid_so : (n q : ℕ) → FirstFault (layout_rules p) n q → layout p ≡ refuse n q
  unlaid_so n q f = sym layout_grouped ∙ rw (layout-judged.refused n q f)

  -- it is refused with n at q exactly where that is its first fault
  pub layout-refused : (n q : ℕ) → (layout p ≡ refuse n q) ↔ FirstFault (layout_rules p) n q
  layout-refused n q = (unlaid_says n q, unlaid_so n q)
