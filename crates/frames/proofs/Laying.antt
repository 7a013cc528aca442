-- What the walk leaves in arrays of zeros are the frames laid; and what was laid stands for the frames.
use mathlib.Core.Path.{◌≡◌, refl, sym, ap, ◌∙◌}
use mathlib.Core.List.{List, [], ◌∷◌, ◌++◌, map}
use mathlib.Core.Logic.{◌⊎◌, inl, inr}
use native.Mathlib.Nat.{zero-add, eq-or-lt_of_le}
use native.Mathlib.Omega.{arith}
use lib.ListN.{length, get_or, take, drop, replicate, length-take, length-replicate, get_or-map}
use lib.Seq.{sets, sets-eq, ext_get_or, take-take}
use Prim.Native.Nat.{ℕ, zero, suc, ◌+◌, ◌≤◌, ◌<◌, min}
use Rattle.laws.specs.Lists.{tab}
use Rattle.laws.specs.Loops.{pad_to}
use Rattle.laws.proofs.Members.{pairs-get_or}
use Rattle.laws.proofs.Lists.{length-tab, get_or-tab, pad_to-none, get_or-pad_to}
use Rattle.rules.specs.Limits.{most_frames}
use Rattle.rules.specs.Traffic.{Message}
use Rattle.rules.specs.Frames.{Pair, pairs_of}
use Rattle.rules.specs.Direct.{Walk}
use Rattle.rules.proofs.PairsOf.{before_case, pairs_of_lem}
use Rattle.rules.proofs.Grid.{pair}
use Rattle.frames.specs.Walk.{task_of, release_of, deadline_of, Derived}
use Rattle.frames.specs.Laid.{column, frames_with, frames_laid, frame_in, frames_seen}

-- ---- laid into zeros

map-take : (number : Pair → ℕ) (n : ℕ) (fs : List Pair) → map number (take n fs) ≡ take n (map number fs)
map-take number zero fs = refl
map-take number (suc n) [] = refl
map-take number (suc n) (f ∷ fs) = ap (λ (l : List ℕ). number f ∷ l) (map-take number n fs)

padded : (n : ℕ) (l : List ℕ) → pad_to n 0 l ≡ take n l ++ drop (length (take n l)) (replicate n 0)
padded zero l = refl
padded (suc n) [] = pad_to-none (suc n) 0
padded (suc n) (x ∷ l) = ap (λ (r : List ℕ). x ∷ r) (padded n l)

laid_in_zeros : (n : ℕ) (l : List ℕ) → sets (replicate n 0) 0 (take n l) ≡ pad_to n 0 l
laid_in_zeros n l =
    let h : length (take n l) ≤ n = rw (length-take n l) (omega arith) in
    let z : 0 + length (take n l) ≡ length (take n l) = zero-add (length (take n l)) in
    sets-eq (take n l) (replicate n 0) 0 (rw (length-replicate {A = ℕ} n 0, z) h)
    ∙ ap (λ (k : ℕ). take n l ++ drop k (replicate n 0)) z ∙ sym (padded n l)

column-is : (number : Pair → ℕ) (fs : List Pair) → sets (replicate most_frames 0) 0 (map number (take most_frames fs)) ≡ column number fs
unfolding column
column-is number fs = ap (sets (replicate most_frames 0) 0) (map-take number most_frames fs) ∙ laid_in_zeros most_frames (map number fs)

-- what a walk found of some frames, which has room for one more than there are places, is laid into zeros as all of them are
pub laid-is : {task₀ release₀ deadline₀ tasks releases deadlines : List ℕ} {n k : ℕ} {w : Walk} (fs : List Pair)
    → task₀ ≡ replicate most_frames 0 → release₀ ≡ replicate most_frames 0 → deadline₀ ≡ replicate most_frames 0
    → Derived task₀ release₀ deadline₀ w tasks releases deadlines n k → w.found ≡ take (suc most_frames) fs
    → frames_with n tasks releases deadlines ≡ frames_laid fs
unfolding frames_laid
laid-is {w = w} fs z₁ z₂ z₃ d e =
    let a : take most_frames w.found ≡ take most_frames fs = rw e (take-take most_frames (suc most_frames) fs (omega arith)) in
    let c : length w.found ≡ min (suc most_frames) (length fs) = rw e (length-take (suc most_frames) fs) in
    rw (d.count ∙ c, (rw (z₁, a) at d.tasks) ∙ column-is task_of fs, (rw (z₂, a) at d.releases) ∙ column-is release_of fs, (rw (z₃, a) at d.deadlines) ∙ column-is deadline_of fs)

-- ---- what was laid stands for the frames

column-at : (number : Pair → ℕ) (fs : List Pair) (k : ℕ) → number (pair 0 0 0) ≡ 0 → length fs ≤ most_frames → k < length fs → get_or (column number fs) k 0 ≡ number (get_or fs k (pair 0 0 0))
unfolding column
column-at number fs k z h w =
    get_or-pad_to most_frames 0 (map number fs) k (omega arith) ∙ ap (get_or (map number fs) k) (sym z) ∙ get_or-map number fs k (pair 0 0 0)

pub laid-seen : (fs : List Pair) → length fs ≤ most_frames → frames_seen (frames_laid fs) ≡ fs
unfolding frames_seen frames_laid frame_in
laid-seen fs h = let e : min (suc most_frames) (length fs) ≡ length fs = omega arith in ap (tab (frame_in (frames_laid fs)) 0) e ∙ ext_get_or (pair 0 0 0) (tab at 0 (length fs)) fs (length-tab at 0 (length fs)) (λ k w. here k (rw (length-tab at 0 (length fs)) at w))
  where
    at : ℕ → Pair
    at = frame_in (frames_laid fs)

    here : (k : ℕ) → k < length fs → get_or (tab at 0 (length fs)) k (pair 0 0 0) ≡ get_or fs k (pair 0 0 0)
    here k w =
        get_or-tab at 0 (length fs) k (pair 0 0 0) w
        ∙ rw (zero-add k, column-at task_of fs k refl h w, column-at release_of fs k refl h w, column-at deadline_of fs k refl h w)

-- ---- the deadlines rise

pub deadlines_rise : (ms : List Message) → length (pairs_of ms) ≤ most_frames → (i j : ℕ) → i ≤ j → j < length (pairs_of ms) → get_or (frames_laid (pairs_of ms)).deadlines i 0 ≤ get_or (frames_laid (pairs_of ms)).deadlines j 0
unfolding frames_laid
deadlines_rise ms h i j a b = which (eq-or-lt_of_le a)
  where
    fs : List Pair
    fs = pairs_of ms

    which : (i ≡ j) ⊎ (i < j) → get_or (column deadline_of fs) i 0 ≤ get_or (column deadline_of fs) j 0
    which (inl e) = rw e (omega arith)
    which (inr l) =
        let x : Pair = get_or fs i (pair 0 0 0) in
        let y : Pair = get_or fs j (pair 0 0 0) in
        let q : x.deadline ≤ y.deadline = before_case x y (pairs-get_or (pair 0 0 0) (pairs_of_lem ms).sorted i j l b) (λ s. omega arith) (λ e s. omega arith) in
        rw (column-at deadline_of fs i refl h (omega arith), column-at deadline_of fs j refl h b) q
