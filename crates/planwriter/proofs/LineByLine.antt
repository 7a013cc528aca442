-- The loop over a plan's records: the lines so far and those of the records still to come are the whole text.
use mathlib.Core.Path.{◌≡◌, refl, sym, ap, ◌∙◌}
use mathlib.Core.Bool.{Bool}
use mathlib.Core.List.{List, [], ◌∷◌, ◌++◌, map}
use native.Mathlib.Omega.{arith}
use lib.ListN.{length, take, drop, length-append}
use lib.Seq.{sets, length-sets}
use Prim.Native.Nat.{ℕ, suc, ◌+◌, ◌-◌, ◌*◌, ◌≤◌, ◌<◌}
use Rattle.laws.specs.Res.{Res, ok, refuse}
use Rattle.laws.specs.Lists.{joined}
use Rattle.laws.proofs.Laid.{sets_append}
use Rattle.laws.proofs.Res.{refuse≢ok, ok_injective, refuse-place}
use Rattle.rules.specs.Records.{Rec, body_length, record_of, plan_follows, before, records}
use Rattle.records.specs.Reader.{next_at}
use Rattle.records.specs.declared.Sort.TheVariants.{Plan}
use Rattle.records.specs.declared.Step.{Step}
use Rattle.records.specs.declared.Step.TheVariants.{Record, End, Wrong}
use Rattle.records.proofs.Bodies.{record_cut}
use Rattle.records.proofs.Steps.{from, onward, one-step, found}
use Rattle.units.specs.declared.Offset.{Offset}
use Rattle.text.specs.Text.{ended}
use Rattle.text.proofs.Putting.{Put}
use Rattle.planwords.specs.PlanText.{count_of, plan_line, plan_lines, plan_text, printed, text_of}
use Rattle.std.specs.Prelude.{Ok, Err}
use Rattle.planwriter.specs.Printing.{MayPut, lines_for, lines_left}

-- where the text stands and ends
pub record Placed : Type 0 where
  pub bytes : List ℕ
  pub place : ℕ

abbrev pub placed : List ℕ → ℕ → List ℕ → Placed
placed buf end text = record { bytes = sets buf end text; place = end + length text }

-- the text of records, behind `k` of the kind `previous` and `number` of all
abbrev pub text_from : ℕ → ℕ → ℕ → List Rec → List ℕ
text_from previous k number rs = joined (map ended (plan_lines previous k number rs))

abbrev pub put_on : List ℕ → ℕ → ℕ → ℕ → ℕ → Res (List Rec) → Res Placed
put_on buf end previous k number (ok rs) = ok (placed buf end (text_from previous k number rs))
put_on buf end previous k number (refuse n place) = refuse n place

pub record SoFar (s old buf : List ℕ) (previous at k number end : ℕ) : Type 0 where
  pub inside : at ≤ length s
  pub whole : put_on old 0 0 0 0 (records plan_follows 1 s) ≡ put_on buf end previous k number (from Plan 1 s previous at)
  pub fewer : k ≤ number
  pub counted : number ≤ at
  pub short : end ≤ 4000 * at
  pub kept : length buf ≡ length old

-- the line of a record, and the lines of those behind it
put-before : (order : ℕ → ℕ → Bool) (m : ℕ) (buf buf' : List ℕ) (end end' previous k number : ℕ) (r : Rec) (w : Res (List Rec))
    → Put buf end (ended (plan_line r (count_of previous k r.kind) number)) buf' end'
    → put_on buf end previous k number (before order m r w) ≡ put_on buf' end' r.kind (suc (count_of previous k r.kind)) (suc number) w
unfolding plan_lines
put-before order m buf buf' end end' previous k number r (refuse n place) p = refl
put-before order m buf buf' end end' previous k number r (ok rs) p =
    let line = ended (plan_line r (count_of previous k r.kind) number) in
    let behind = text_from r.kind (suc (count_of previous k r.kind)) (suc number) rs in
    let long : length (line ++ behind) ≡ length line + length behind = length-append line behind in
    let far : end + length (line ++ behind) ≡ end' + length behind = omega (arith, p.1) in
    let same : sets buf end (line ++ behind) ≡ sets buf' end' behind = rw (p.0, p.1) (sets_append buf end line behind) in
    rw (same, far)

pub so_far_none : (s old : List ℕ) → SoFar s old old 0 0 0 0 0
unfolding records from
so_far_none s old = record { inside = omega arith; whole = refl; fewer = omega arith; counted = omega arith; short = omega arith; kept = refl }

module _ {s old buf : List ℕ} {previous at k number end : ℕ} (h : SoFar s old buf previous at k number end) {step : Step}
    (next-is : step ≡ next_at Plan s previous at) where
  onwards : {told : Step} → step ≡ told → put_on old 0 0 0 0 (records plan_follows 1 s) ≡ put_on buf end previous k number (onward Plan 1 s told)
  onwards q = h.whole ∙ ap (put_on buf end previous k number) (one-step Plan 1 s previous at h.inside ∙ ap (onward Plan 1 s) (sym next-is ∙ q))

  pub so_far_more : {kind body next count end' : ℕ} {lent buf' : List ℕ} → step ≡ Record kind body next → lent ≡ take (next - body) (drop body s)
      → count ≡ count_of previous k kind → count ≤ k → Put buf end (ended (plan_line (record_of kind lent) count number)) buf' end' → end' ≤ end + 4000
      → SoFar s old buf' kind next (count + 1) (number + 1) end'
  unfolding record_of
  so_far_more {kind} {body} {next} {count} {end'} {lent} {buf'} e l c few p most =
      let f = found Plan s previous at kind body next (sym next-is ∙ e) in
      let n : next - body ≡ body_length kind = omega (arith, f.body_place, f.next_place) in
      let r : record_of kind lent ≡ record_of kind (drop body s) = rw (l, n, record_cut kind (drop body s)) in
      let line : Put buf end (ended (plan_line (record_of kind (drop body s)) (count_of previous k kind) number)) buf' end' = rw (r, c) at p in
      let one : count + 1 ≡ suc (count_of previous k kind) = omega (arith, c) in
      let another : number + 1 ≡ suc number = omega arith in
      record {
        inside = f.fits;
        whole =
            rw (one, another)
            (onwards e ∙ put-before plan_follows 1 buf buf' end end' previous k number (record_of kind (drop body s)) (from Plan 1 s kind next) line);
        fewer = omega (arith, h.fewer);
        counted = omega (arith, h.counted, f.further);
        short = omega (arith, h.short, f.further);
        kept = ap length line.0 ∙ length-sets buf end (ended (plan_line (record_of kind (drop body s)) (count_of previous k kind) number)) ∙ h.kept;
      }

  pub so_far_less : {kind body next : ℕ} → step ≡ Record kind body next → length s - next < length s - at
  so_far_less {kind} {body} {next} e =
      let f = found Plan s previous at kind body next (sym next-is ∙ e) in
      omega (arith, f.further, f.fits)

  pub so_far_end : step ≡ End → (Ok end ≡ lines_for (plan_text s)) × (buf ≡ lines_left (plan_text s) old)
  unfolding plan_text plan_lines text_of
  so_far_end e = finished (records plan_follows 1 s) (onwards e)
    where
      finished : (m : Res (List Rec)) → put_on old 0 0 0 0 m ≡ ok (placed buf end []) → (Ok end ≡ lines_for (printed m)) × (buf ≡ lines_left (printed m) old)
      finished (ok rs) g =
          let same : placed old 0 (text_from 0 0 0 rs) ≡ placed buf end [] = ok_injective g in
          let far : 0 + length (text_from 0 0 0 rs) ≡ end + 0 = ap (λ (p : Placed). p.place) same in
          let long : end ≡ length (text_from 0 0 0 rs) = omega arith in
          (ap Ok long, sym (ap (λ (p : Placed). p.bytes) same))
      finished (refuse n place) g = refuse≢ok g

  pub so_far_wrong : {place : Offset} → step ≡ Wrong place → MayPut (plan_text s) old → (Err place ≡ lines_for (plan_text s)) × (buf ≡ lines_left (plan_text s) old)
  unfolding plan_text
  so_far_wrong {place} e may = broken (records plan_follows 1 s) (onwards e) may
    where
      empty : (a b : List ℕ) → length a ≡ length b → length b ≡ 0 → a ≡ b
      empty [] [] p q = refl
      empty [] (y ∷ b) p q = absurd (omega arith)
      empty (x ∷ a) [] p q = absurd (omega arith)
      empty (x ∷ a) (y ∷ b) p q = absurd (omega arith)

      broken : (m : Res (List Rec)) → put_on old 0 0 0 0 m ≡ refuse 1 place.0 → MayPut (printed m) old
          → (Err place ≡ lines_for (printed m)) × (buf ≡ lines_left (printed m) old)
      broken (ok rs) g may = refuse≢ok (sym g)
      broken (refuse n p) g may = (rw (refuse-place g), empty buf old h.kept may)
