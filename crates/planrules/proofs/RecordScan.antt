-- The scan over a file's records for the first that fails a test: what was passed and the rest of the walk come to the whole answer.
use mathlib.Core.Path.{◌≡◌, refl, sym, ap, ◌∙◌}
use mathlib.Core.Bool.{Bool, true, false}
use mathlib.Core.List.{List}
use mathlib.Core.Option.{Option, none, some}
use native.Mathlib.Nat.{add-zero}
use native.Mathlib.Numerals.{add-one}
use native.Mathlib.Omega.{arith}
use lib.ListN.{length, take, drop}
use Prim.Native.Nat.{ℕ, ◌+◌, ◌-◌, ◌≤◌, ◌<◌}
use Rattle.laws.specs.Res.{Res, ok, refuse}
use Rattle.laws.specs.Lists.{next, first_bad}
use Rattle.laws.proofs.Lists.{true-false}
use Rattle.rules.specs.Records.{Rec, body_length, record_of, plan_follows, before, records}
use Rattle.records.specs.Reader.{next_at}
use Rattle.records.specs.declared.Sort.TheVariants.{Plan}
use Rattle.records.specs.declared.Step.{Step}
use Rattle.records.specs.declared.Step.TheVariants.{Record, End, Wrong}
use Rattle.records.proofs.Steps.{from, onward, one-step, found}
use Rattle.units.specs.declared.Offset.{Offset}
use Rattle.records.proofs.Bodies.{record_cut}
use Rattle.std.specs.Prelude.{Some, None}
use Rattle.std.specs.Prelude as code
use Rattle.planfits.specs.Scans.{earlier_of, is_ok, first_bad_of}
use Rattle.places.specs.Spot.{spot_of}

-- n places further on
abbrev shifted : ℕ → Option ℕ → Option ℕ
shifted n none = none
shifted n (some k) = some (n + k)

shifted_none : (o : Option ℕ) → shifted 0 o ≡ o
shifted_none none = refl
shifted_none (some k) = ap some (omega arith)

shifted_next : (n : ℕ) (o : Option ℕ) → shifted n (next o) ≡ shifted (n + 1) o
shifted_next n none = refl
shifted_next n (some k) = ap some (omega (arith, add-one k))

module _ (order : ℕ → ℕ → Bool) (m : ℕ) (test : Rec → Bool) (r : Rec) where
  sound-behind : (w : Res (List Rec)) → is_ok (before order m r w) ≡ true → is_ok w ≡ true
  sound-behind (ok rs) e = refl
  sound-behind (refuse n p) e = e

  passed_record : (n : ℕ) (w : Res (List Rec)) → test r ≡ true → shifted n (first_bad_of test (before order m r w)) ≡ shifted (n + 1) (first_bad_of test w)
  passed_record n (ok rs) e = rw e (shifted_next n (first_bad test rs))
  passed_record n (refuse k p) e = refl

  failed_record : (n : ℕ) (w : Res (List Rec)) → is_ok w ≡ true → test r ≡ false → shifted n (first_bad_of test (before order m r w)) ≡ some n
  failed_record n (ok rs) s e = rw (e, add-zero n)
  failed_record n (refuse k p) s e = true-false (sym s)

-- what was found before, else what is found from here on
abbrev or_later : code.Option ℕ → Option ℕ → code.Option ℕ
or_later (Some k) o = Some k
or_later None o = spot_of o

later-none : (f : code.Option ℕ) → or_later f none ≡ f
later-none (Some k) = refl
later-none None = refl

module _ (order : ℕ → ℕ → Bool) (m : ℕ) (test : Rec → Bool) (r : Rec) (n : ℕ) (w : Res (List Rec)) (s : is_ok w ≡ true) where
  -- one record more is looked at
  one_later : (f : code.Option ℕ) (good : Bool) → test r ≡ good
      → or_later f (shifted n (first_bad_of test (before order m r w))) ≡ or_later (earlier_of f good n) (shifted (n + 1) (first_bad_of test w))
  one_later (Some k) good e = refl
  one_later None true e = ap spot_of (passed_record order m test r n w e)
  one_later None false e = ap spot_of (failed_record order m test r n w s e)

-- the scan so far: n records are looked at
pub record Scanned (s : List ℕ) (test : Rec → Bool) (previous at n : ℕ) (f : code.Option ℕ) : Type 0 where
  pub inside : at ≤ length s
  pub sound : is_ok (from Plan 1 s previous at) ≡ true
  pub whole : spot_of (first_bad_of test (records plan_follows 1 s)) ≡ or_later f (shifted n (first_bad_of test (from Plan 1 s previous at)))
  pub counted : n ≤ at

pub scanned-none : {s : List ℕ} {test : Rec → Bool} → is_ok (records plan_follows 1 s) ≡ true → Scanned s test 0 0 0 None
unfolding records from
scanned-none {s} {test} e =
    record { inside = omega arith; sound = e; whole = ap spot_of (sym (shifted_none (first_bad_of test (records plan_follows 1 s)))); counted = omega arith }

-- the step that the reader takes from here is given as a value, with what it is
module _ {s : List ℕ} {test : Rec → Bool} {previous at n : ℕ} {f : code.Option ℕ} (h : Scanned s test previous at n f) {step : Step}
    (next-is : step ≡ next_at Plan s previous at) where
  onwards : {told : Step} → step ≡ told
      → spot_of (first_bad_of test (records plan_follows 1 s)) ≡ or_later f (shifted n (first_bad_of test (onward Plan 1 s told)))
  onwards q =
      h.whole
      ∙ ap (λ (w : Res (List Rec)). or_later f (shifted n (first_bad_of test w)))
      (one-step Plan 1 s previous at h.inside ∙ ap (onward Plan 1 s) (sym next-is ∙ q))

  sound_on : {told : Step} → step ≡ told → is_ok (onward Plan 1 s told) ≡ true
  sound_on q =
      sym (ap (is_ok {A = List Rec}) (one-step Plan 1 s previous at h.inside ∙ ap (onward Plan 1 s) (sym next-is ∙ q))) ∙ h.sound

  pub scanned_more : {kind body next : ℕ} {lent : List ℕ} {good : Bool} {g : code.Option ℕ} → step ≡ Record kind body next
      → lent ≡ take (next - body) (drop body s) → good ≡ test (record_of kind lent) → g ≡ earlier_of f good n
      → Scanned s test kind next (n + 1) g
  scanned_more {kind} {body} {next} {lent} {good} e l q t =
      let u = found Plan s previous at kind body next (sym next-is ∙ e) in
      let w : next - body ≡ body_length kind = omega (arith, u.body_place, u.next_place) in
      let v : test (record_of kind (drop body s)) ≡ good = sym (rw (l, w, record_cut kind (drop body s)) at q) in
      let behind : is_ok (from Plan 1 s kind next) ≡ true
      = sound-behind plan_follows 1 test (record_of kind (drop body s)) (from Plan 1 s kind next) (sound_on e) in
      record {
        inside = u.fits;
        sound = behind;
        whole =
            onwards e
            ∙ one_later plan_follows 1 test (record_of kind (drop body s)) n (from Plan 1 s kind next) behind f good v
            ∙ rw t;
        counted = omega (arith, h.counted, u.further);
      }

  pub scanned-end : step ≡ End → f ≡ spot_of (first_bad_of test (records plan_follows 1 s))
  scanned-end e = sym (onwards e ∙ later-none f)

  pub scanned-wrong : {C : Type 0} {place : Offset} → step ≡ Wrong place → C
  scanned-wrong e = true-false (sym (sound_on e))

  -- the next record is counted at a place inside of the file, and what stands behind it is less
  pub scanned-number : {kind body next : ℕ} → step ≡ Record kind body next → n < length s
  scanned-number {kind} {body} {next} e =
      let u = found Plan s previous at kind body next (sym next-is ∙ e) in
      omega (arith, u.fits, u.further, h.counted)

  pub scanned_less : {kind body next : ℕ} → step ≡ Record kind body next → length s - next < length s - at
  scanned_less {kind} {body} {next} e =
      let u = found Plan s previous at kind body next (sym next-is ∙ e) in
      omega (arith, u.fits, u.further)
