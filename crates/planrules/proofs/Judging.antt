-- What reading a file comes to, for each way out: the refusal that applies first, or the plan.
use mathlib.Core.Path.{◌≡◌, refl, sym, ap, ◌∙◌}
use mathlib.Core.Bool.{Bool, true}
use mathlib.Core.List.{List, [], ◌∷◌}
use mathlib.Core.Option.{Option, none, some}
use native.Mathlib.Nat.{zero-add}
use native.Mathlib.Omega.{arith}
use lib.ListN.{length-map}
use Prim.Native.Nat.{ℕ, ◌+◌}
use Rattle.laws.specs.Res.{Res, ok, refuse, at}
use Rattle.laws.specs.Lists.{first_bad, up_to}
use Rattle.laws.proofs.Res.{bind_ok, bind_refuse, then_ok, then_refuse, at_none, at_ok, at_some}
use Rattle.rules.specs.Records.{Rec, records, plan_follows}
use Rattle.rules.specs.Plan as rules
use Rattle.rules.proofs.NamedAlike.{named_alike}
use Rattle.answers.specs.declared.Refusal.{Refusal}
use Rattle.answers.specs.declared.Refusal.TheVariants.{BadRecords, BadCount, NotThere, OutOfRange, Unfit}
use Rattle.answers.specs.Refusals.{said}
use Rattle.plan.specs.declared.Plan.{Plan}
use Rattle.std.specs.Prelude.{Some, None, Result, Ok, Err}
use Rattle.units.specs.declared.Offset.{Offset}
use Rattle.std.specs.Prelude as code
use Rattle.plan.specs.Memory.{lay_out, seen}
use Rattle.plangather.specs.Gather.{gathered_of}
use Rattle.plan.proofs.Laid.{counts-placed, seen-laid}
use Rattle.planrules.specs.Reading.{Reads}
use Rattle.planfits.specs.Scans.{is_ok, first_bad_of, unfit_of}
use Rattle.places.specs.Spot.{spot_of}
use Rattle.planrules.specs.Tests.{counts_fit, listed}
use Rattle.planrules.proofs.RecordRefusal.{records-refuse}

-- ---- general

first_bad_alike : {A : Type 0} (p q : A → Bool) → ((x : A) → p x ≡ q x) → (l : List A) → first_bad p l ≡ first_bad q l
first_bad_alike p q e [] = refl
first_bad_alike p q e (x ∷ l) = rw (e x, first_bad_alike p q e l)

found_some : (o : Option ℕ) (n : ℕ) → Some n ≡ spot_of o → o ≡ some n
found_some none n e = let z : ◌≡◌ {A = ℕ} 0 1 = cc in absurd (omega arith)
found_some (some k) n e = cc

found_none : (o : Option ℕ) → None ≡ spot_of o → o ≡ none
found_none none e = refl
found_none (some k) e = let z : ◌≡◌ {A = ℕ} 0 1 = cc in absurd (omega arith)

-- ---- the gathered plan

gathered_as : {C : Type 0} (p : Plan) (m : Res (List Rec)) → gathered_of m ≡ Ok p
    → ((rs : List Rec) → m ≡ ok rs → p ≡ lay_out (rules.plan_of rs) → C) → C
gathered_as p (ok rs) e go = let same : p ≡ lay_out (rules.plan_of rs) = cc in go rs refl same
gathered_as p (refuse n place) e go = let z : ◌≡◌ {A = ℕ} 0 1 = cc in absurd (omega arith)

-- a file whose plan is gathered keeps the record rules
pub gathered-sound : (s : List ℕ) (p : Plan) → gathered_of (records plan_follows 1 s) ≡ Ok p
    → is_ok (records plan_follows 1 s) ≡ true
gathered-sound s p e = gathered_as p (records plan_follows 1 s) e λ rs w q. rw w

-- ---- a reading that says what the rules say

refused-reads : (r : Result Plan Refusal) (x : Refusal) (rule : Res rules.Plan) → r ≡ Err x → rule ≡ said x → Reads r rule
refused-reads r x rule e q = record { answered = rw (e, q); left = rw (e, q) }

sound-reads : (r : Result Plan Refusal) (p : rules.Plan) (rule : Res rules.Plan) → r ≡ Ok (lay_out p) → rule ≡ ok p → Reads r rule
sound-reads r p rule e q = record { answered = rw (e, q); left = rw (e, q) }

-- ---- the rules, from a file's records on

module _ (rs : List Rec) where
  -- the counts in memory are those of the records
  counts_same : first_bad (counts_fit (lay_out (rules.plan_of rs)).counts) (up_to 6) ≡ first_bad (rules.count_fits rs) (up_to 6)
  unfolding counts_fit lay_out rules.plan_of rules.count_fits rules.count rules.least_counts rules.most_counts
  counts_same =
      rw (
        length-map (rules.things 3 rs) rules.module_of,
        length-map (rules.things 4 rs) rules.mode_of,
        length-map (rules.things 5 rs) rules.task_of,
        length-map (rules.things 6 rs) rules.invocation_of,
        length-map (rules.things 7 rs) rules.connection_of,
      )

  names_same : (r : Rec) → rules.names_are_there (listed (lay_out (rules.plan_of rs)).counts) r ≡ rules.names_are_there (rules.count rs) r
  unfolding lay_out rules.plan_of rules.count
  names_same =
      named_alike (listed (lay_out (rules.plan_of rs)).counts) (rules.count rs) refl
      (length-map (rules.things 3 rs) rules.module_of) (length-map (rules.things 4 rs) rules.mode_of) (length-map (rules.things 5 rs) rules.task_of)

module _ (s : List ℕ) (p : Plan) (rs : List Rec) (walked : records plan_follows 1 s ≡ ok rs) (laid : p ≡ lay_out (rules.plan_of rs)) where
  counts-place : (f : code.Option ℕ) → f ≡ spot_of (first_bad (counts_fit p.counts) (up_to 6)) → f ≡ spot_of (first_bad (rules.count_fits rs) (up_to 6))
  counts-place f e = e ∙ rw (laid, counts_same rs)

  bad_count_of : (k : ℕ) → Some k ≡ spot_of (first_bad (counts_fit p.counts) (up_to 6)) → rules.read_plan s ≡ refuse 2 (2 + k)
  unfolding rules.read_plan
  bad_count_of k e =
      let o : first_bad (rules.count_fits rs) (up_to 6) ≡ some k = found_some _ k (counts-place (Some k) e) in
      bind_ok _ walked ∙ then_refuse _ (at_some 2 2 o)

  module _ (counted : None ≡ spot_of (first_bad (counts_fit p.counts) (up_to 6))) where
    counts_pass : at 2 2 (first_bad (rules.count_fits rs) (up_to 6)) ≡ ok tt
    counts_pass = at_none 2 2 (found_none (first_bad (rules.count_fits rs) (up_to 6)) (counts-place None counted))

    names-found : (f : code.Option ℕ) → f ≡ spot_of (first_bad_of (rules.names_are_there (listed p.counts)) (records plan_follows 1 s))
        → f ≡ spot_of (first_bad (rules.names_are_there (rules.count rs)) rs)
    names-found f q =
        q ∙ rw (walked, laid, first_bad_alike (rules.names_are_there (listed (lay_out (rules.plan_of rs)).counts)) (rules.names_are_there (rules.count rs)) (names_same rs) rs)

    ranges-found : (f : code.Option ℕ) → f ≡ spot_of (first_bad_of rules.numbers_are_within (records plan_follows 1 s))
        → f ≡ spot_of (first_bad rules.numbers_are_within rs)
    ranges-found f q = q ∙ rw walked

    not-there_of : (n : ℕ) → Some n ≡ spot_of (first_bad_of (rules.names_are_there (listed p.counts)) (records plan_follows 1 s)) → rules.read_plan s ≡ refuse 3 n
    unfolding rules.read_plan
    not-there_of n q =
        let o : first_bad (rules.names_are_there (rules.count rs)) rs ≡ some n = found_some _ n (names-found (Some n) q) in
        bind_ok _ walked ∙ then_ok _ counts_pass ∙ then_refuse _ (at_some 3 0 o) ∙ rw (zero-add n)

    module _ (named : None ≡ spot_of (first_bad_of (rules.names_are_there (listed p.counts)) (records plan_follows 1 s))) where
      names_pass : at 3 0 (first_bad (rules.names_are_there (rules.count rs)) rs) ≡ ok tt
      names_pass = at_none 3 0 (found_none (first_bad (rules.names_are_there (rules.count rs)) rs) (names-found None named))

      out_of_range_of : (n : ℕ) → Some n ≡ spot_of (first_bad_of rules.numbers_are_within (records plan_follows 1 s)) → rules.read_plan s ≡ refuse 4 n
      unfolding rules.read_plan
      out_of_range_of n q =
          let o : first_bad rules.numbers_are_within rs ≡ some n = found_some _ n (ranges-found (Some n) q) in
          bind_ok _ walked ∙ then_ok _ counts_pass ∙ then_ok _ names_pass ∙ then_refuse _ (at_some 4 0 o) ∙ rw (zero-add n)

      module _ (ranged : None ≡ spot_of (first_bad_of rules.numbers_are_within (records plan_follows 1 s))) where
        ranges_pass : at 4 0 (first_bad rules.numbers_are_within rs) ≡ ok tt
        ranges_pass = at_none 4 0 (found_none (first_bad rules.numbers_are_within rs) (ranges-found None ranged))

        seen-again : seen p ≡ rules.plan_of rs
        seen-again = rw laid (seen-laid (rules.plan_of rs) (counts-placed rs (at_ok 2 2 _ counts_pass)))

        unfit-of : (n : ℕ) → unfit_of (Some n) ≡ rules.rule5 (seen p) → rules.read_plan s ≡ refuse 5 n
        unfolding rules.read_plan
        unfit-of n q =
            bind_ok _ walked ∙ then_ok _ counts_pass ∙ then_ok _ names_pass ∙ then_ok _ ranges_pass
            ∙ then_refuse _ (sym (rw seen-again at q))

        read_of : unfit_of None ≡ rules.rule5 (seen p) → rules.read_plan s ≡ ok (rules.plan_of rs)
        unfolding rules.read_plan
        read_of q =
            bind_ok _ walked ∙ then_ok _ counts_pass ∙ then_ok _ names_pass ∙ then_ok _ ranges_pass ∙ then_ok _ (sym (rw seen-again at q))

-- ---- the ways out of the code

module _ (s : List ℕ) (p : Plan) (r : Result Plan Refusal) (g : gathered_of (records plan_follows 1 s) ≡ Ok p) where
  pub way_count : (k : ℕ) → Some k ≡ spot_of (first_bad (counts_fit p.counts) (up_to 6))
      → r ≡ Err (BadCount (k + 2)) → Reads r (rules.read_plan s)
  way_count k e w =
      gathered_as p (records plan_follows 1 s) g λ rs walked laid.
      refused-reads r (BadCount (k + 2)) (rules.read_plan s) w
      (bad_count_of s p rs walked laid k e ∙ ap (refuse 2) (omega arith))

  module _ (counted : None ≡ spot_of (first_bad (counts_fit p.counts) (up_to 6))) where
    pub way_names : (n : ℕ) → Some n ≡ spot_of (first_bad_of (rules.names_are_there (listed p.counts)) (records plan_follows 1 s))
        → r ≡ Err (NotThere (record { 0 = n })) → Reads r (rules.read_plan s)
    way_names n q w =
        gathered_as p (records plan_follows 1 s) g λ rs walked laid.
        refused-reads r (NotThere (record { 0 = n })) (rules.read_plan s) w (not-there_of s p rs walked laid counted n q)

    module _ (named : None ≡ spot_of (first_bad_of (rules.names_are_there (listed p.counts)) (records plan_follows 1 s))) where
      pub way_ranges : (n : ℕ) → Some n ≡ spot_of (first_bad_of rules.numbers_are_within (records plan_follows 1 s))
          → r ≡ Err (OutOfRange (record { 0 = n })) → Reads r (rules.read_plan s)
      way_ranges n q w =
          gathered_as p (records plan_follows 1 s) g λ rs walked laid.
          refused-reads r (OutOfRange (record { 0 = n })) (rules.read_plan s) w (out_of_range_of s p rs walked laid counted named n q)

      module _ (ranged : None ≡ spot_of (first_bad_of rules.numbers_are_within (records plan_follows 1 s))) where
        pub way_unfit : (n : ℕ) → unfit_of (Some n) ≡ rules.rule5 (seen p)
            → r ≡ Err (Unfit (record { 0 = n })) → Reads r (rules.read_plan s)
        way_unfit n q w =
            gathered_as p (records plan_follows 1 s) g λ rs walked laid.
            refused-reads r (Unfit (record { 0 = n })) (rules.read_plan s) w (unfit-of s p rs walked laid counted named ranged n q)

        pub way_sound : unfit_of None ≡ rules.rule5 (seen p) → r ≡ Ok p → Reads r (rules.read_plan s)
        way_sound q w =
            gathered_as p (records plan_follows 1 s) g λ rs walked laid.
            sound-reads r (rules.plan_of rs) (rules.read_plan s) (w ∙ rw laid) (read_of s p rs walked laid counted named ranged q)

-- ---- a file that breaks the record rules

place_in : Result Plan Offset → ℕ
place_in (Ok p) = 0
place_in (Err o) = o.0

broken_as : (place : ℕ) (m : Res (List Rec)) → gathered_of m ≡ Err (record { 0 = place })
    → ((n q : ℕ) → m ≡ refuse n q → n ≡ 1) → m ≡ refuse 1 place
unfolding place_in
broken_as place (ok rs) e one = let z : ◌≡◌ {A = ℕ} 0 1 = cc in absurd (omega arith)
broken_as place (refuse n q) e one =
    let z : q ≡ place = ap place_in e in
    rw (one n q refl, z)

pub way_broken : (s : List ℕ) (place : ℕ) (r : Result Plan Refusal)
    → gathered_of (records plan_follows 1 s) ≡ Err (record { 0 = place })
    → r ≡ Err (BadRecords (record { 0 = place })) → Reads r (rules.read_plan s)
unfolding rules.read_plan
way_broken s place r e w =
    refused-reads r (BadRecords (record { 0 = place })) (rules.read_plan s) w
    (bind_refuse _ (broken_as place (records plan_follows 1 s) e (λ n at f. records-refuse s n at f)))
