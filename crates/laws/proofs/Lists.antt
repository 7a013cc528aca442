-- Lists: laws of keep, any, all, tab, up_to and pad_to that loops and theorems ask for. A loop's turn adds one element at the end,
-- so each has a law for `l ++ (x ∷ [])` and for `take (i + 1) l`; a theorem reads places, so each has a law by `get_or`.
use mathlib.Core.Path.{◌≡◌, refl, sym, ap, ◌∙◌}
use mathlib.Core.Bool.{Bool, true, false, cond, ◌&&◌, ◌||◌}
use mathlib.Core.List.{List, [], ◌∷◌, ◌++◌, map, append_assoc, append-nil}
use mathlib.Core.Logic.{◌⊎◌, inl, inr}
use native.Mathlib.Nat.{not-suc-le-zero, le_of_suc-le-suc, eq-or-lt_of_le, zero-add, add-zero, add-suc, suc-add}
use native.Mathlib.Numerals.{add-one}
use native.Mathlib.Omega.{arith}
use lib.ListN.{length, get_or, set, take, replicate, length-append}
use lib.Seq.{take-suc}
use Prim.Native.Nat.{ℕ, zero, suc, ◌+◌, ◌≤◌, ◌<◌, zero-le, suc-le-suc}
use Rattle.laws.specs.Lists.{cons_if, keep, any, all, tab, up_to, joined, last_d}
use Rattle.laws.specs.Loops.{pad_to}

-- ---- passed and failed tests

pub true-false : {A : Type 0} → true ≡ false → A
true-false e = let z : ◌≡◌ {A = ℕ} 0 1 = cc in absurd (omega arith)

-- a test passes or it fails, with the equation
pub tested : (b : Bool) → (b ≡ true) ⊎ (b ≡ false)
tested true = inl refl
tested false = inr refl

pub both_left : (a b : Bool) → (a && b) ≡ true → a ≡ true
both_left true b e = refl
both_left false b e = true-false (sym e)

pub both_right : (a b : Bool) → (a && b) ≡ true → b ≡ true
both_right true b e = e
both_right false b e = true-false (sym e)

pub both : {a b : Bool} → a ≡ true → b ≡ true → (a && b) ≡ true
both p q = rw (p, q)

pub and-true : (b : Bool) → (b && true) ≡ b
and-true true = refl
and-true false = refl

pub or-false : (b : Bool) → (b || false) ≡ b
or-false true = refl
or-false false = refl

pub neither_left : (a b : Bool) → (a || b) ≡ false → a ≡ false
neither_left true b e = e
neither_left false b e = refl

pub neither_right : (a b : Bool) → (a || b) ≡ false → b ≡ false
neither_right true b e = true-false e
neither_right false b e = e

-- ---- one element more at the end

module _ {A : Type 0} where
  pub length_snoc : (l : List A) (x : A) → length (l ++ (x ∷ [])) ≡ length l + 1
  length_snoc l x = length-append l (x ∷ [])

  pub take_more : (l : List A) (i : ℕ) (d : A) → i < length l → take (i + 1) l ≡ take i l ++ (get_or l i d ∷ [])
  take_more l i d h = rw (add-one, take-suc l i d)

  pub map-append : {B : Type 0} (f : A → B) (l m : List A) → map f (l ++ m) ≡ map f l ++ map f m
  map-append f [] m = refl
  map-append {B} f (x ∷ l) m = ap (λ (r : List B). f x ∷ r) (map-append f l m)

  pub map_snoc : {B : Type 0} (f : A → B) (l : List A) (x : A) → map f (l ++ (x ∷ [])) ≡ map f l ++ (f x ∷ [])
  map_snoc f l x = map-append f l (x ∷ [])

  -- ---- the last element

  pub last-append : (l m : List A) (d : A) → last_d (l ++ m) d ≡ last_d m (last_d l d)
  last-append [] m d = refl
  last-append (x ∷ l) m d = last-append l m x

  pub last-map : {B : Type 0} (f : A → B) (l : List A) (d : A) → last_d (map f l) (f d) ≡ f (last_d l d)
  last-map f [] d = refl
  last-map f (x ∷ l) d = last-map f l x

  pub last-get_or : (x : A) (l : List A) (d : A) → get_or (x ∷ l) (length l) d ≡ last_d l x
  last-get_or x [] d = refl
  last-get_or x (y ∷ l) d = last-get_or y l d

-- ---- keep, any, all

module _ {A : Type 0} (p : A → Bool) where
  pub keep_yes : (x : A) (l : List A) → p x ≡ true → keep p (x ∷ l) ≡ x ∷ keep p l
  keep_yes x l e = rw e

  pub keep_no : (x : A) (l : List A) → p x ≡ false → keep p (x ∷ l) ≡ keep p l
  keep_no x l e = rw e

  cons_if-append : (b : Bool) (x : A) (l m : List A) → cons_if b x (l ++ m) ≡ cons_if b x l ++ m
  cons_if-append true x l m = refl
  cons_if-append false x l m = refl

  pub keep_append : (l m : List A) → keep p (l ++ m) ≡ keep p l ++ keep p m
  keep_append [] m = refl
  keep_append (x ∷ l) m = ap (cons_if (p x) x) (keep_append l m) ∙ cons_if-append (p x) x (keep p l) (keep p m)

  pub keep_snoc : (l : List A) (x : A) → keep p (l ++ (x ∷ [])) ≡ keep p l ++ cons_if (p x) x []
  keep_snoc l x = keep_append l (x ∷ [])

  pub keep_snoc_yes : (l : List A) (x : A) → p x ≡ true → keep p (l ++ (x ∷ [])) ≡ keep p l ++ (x ∷ [])
  keep_snoc_yes l x e = rw (keep_snoc l x, e)

  append-nothing : (l : List A) → l ++ [] ≡ l
  append-nothing [] = refl
  append-nothing (x ∷ l) = ap (λ (r : List A). x ∷ r) (append-nothing l)

  pub keep_snoc_no : (l : List A) (x : A) → p x ≡ false → keep p (l ++ (x ∷ [])) ≡ keep p l
  keep_snoc_no l x e = rw (keep_snoc l x, e) (append-nothing (keep p l))

  length-cons_if : (b : Bool) (x : A) (l : List A) (n : ℕ) → length l ≤ n → length (cons_if b x l) ≤ suc n
  length-cons_if true x l n h = suc-le-suc h
  length-cons_if false x l n h = omega arith

  pub length-keep : (l : List A) → length (keep p l) ≤ length l
  length-keep [] = zero-le
  length-keep (x ∷ l) = length-cons_if (p x) x (keep p l) (length l) (length-keep l)

  pub any_append : (l m : List A) → any p (l ++ m) ≡ (any p l || any p m)
  any_append [] m = refl
  any_append (x ∷ l) m = ap (λ (b : Bool). p x || b) (any_append l m) ∙ grouped (p x) (any p l) (any p m)
    where
      grouped : (a b c : Bool) → (a || (b || c)) ≡ ((a || b) || c)
      grouped true b c = refl
      grouped false b c = refl

  pub any_snoc : (l : List A) (x : A) → any p (l ++ (x ∷ [])) ≡ (any p l || p x)
  any_snoc l x = any_append l (x ∷ []) ∙ ap (λ (b : Bool). any p l || b) (or-false (p x))

  pub any_more : (l : List A) (i : ℕ) (d : A) → i < length l → any p (take (i + 1) l) ≡ (any p (take i l) || p (get_or l i d))
  any_more l i d h = rw (take_more l i d h) (any_snoc (take i l) (get_or l i d))

  -- a scan that has met nothing meets nothing at i either
  pub any_missed : (l : List A) (i : ℕ) (d : A) → i < length l → any p (take i l) ≡ false → p (get_or l i d) ≡ false
      → any p (take (i + 1) l) ≡ false
  any_missed l i d h e f = rw (any_more l i d h, e, f)

  -- some place passes
  pub any_hit : (l : List A) (i : ℕ) (d : A) → i < length l → p (get_or l i d) ≡ true → any p l ≡ true
  any_hit [] i d h e = absurd (not-suc-le-zero h)
  any_hit (x ∷ l) zero d h e = rw e
  any_hit (x ∷ l) (suc i) d h e = rw (any_hit l i d (le_of_suc-le-suc h) e) (or_yes (p x))
    where
      or_yes : (b : Bool) → (b || true) ≡ true
      or_yes true = refl
      or_yes false = refl

  pub any_false : (l : List A) (d : A) (i : ℕ) → any p l ≡ false → i < length l → p (get_or l i d) ≡ false
  any_false [] d i e h = absurd (not-suc-le-zero h)
  any_false (x ∷ l) d zero e h = neither_left (p x) (any p l) e
  any_false (x ∷ l) d (suc i) e h = any_false l d i (neither_right (p x) (any p l) e) (le_of_suc-le-suc h)

  -- a place that passes
  pub any-true : (l : List A) (d : A) → any p l ≡ true → (i : ℕ) × (i < length l) × (p (get_or l i d) ≡ true)
  any-true [] d e = true-false (sym e)
  any-true (x ∷ l) d e = found (p x) refl e (any-true l d)
    where
      found : (b : Bool) → p x ≡ b → (b || any p l) ≡ true → (any p l ≡ true → (i : ℕ) × (i < length l) × (p (get_or l i d) ≡ true))
          → (i : ℕ) × (i < length (x ∷ l)) × (p (get_or (x ∷ l) i d) ≡ true)
      found true q e r = (zero, suc-le-suc zero-le, q)
      found false q e r = let t = r e in (suc t.0, suc-le-suc t.1, t.2)

  pub all_append : (l m : List A) → all p (l ++ m) ≡ (all p l && all p m)
  all_append [] m = refl
  all_append (x ∷ l) m = ap (λ (b : Bool). p x && b) (all_append l m) ∙ grouped (p x) (all p l) (all p m)
    where
      grouped : (a b c : Bool) → (a && (b && c)) ≡ ((a && b) && c)
      grouped true b c = refl
      grouped false b c = refl

  pub all_snoc : (l : List A) (x : A) → all p (l ++ (x ∷ [])) ≡ (all p l && p x)
  all_snoc l x = all_append l (x ∷ []) ∙ ap (λ (b : Bool). all p l && b) (and-true (p x))

  pub all_more : (l : List A) (i : ℕ) (d : A) → i < length l → all p (take (i + 1) l) ≡ (all p (take i l) && p (get_or l i d))
  all_more l i d h = rw (take_more l i d h) (all_snoc (take i l) (get_or l i d))

  pub all_passed : (l : List A) (i : ℕ) (d : A) → i < length l → all p (take i l) ≡ true → p (get_or l i d) ≡ true
      → all p (take (i + 1) l) ≡ true
  all_passed l i d h e f = rw (all_more l i d h, e, f)

  pub all-failed : (l : List A) (i : ℕ) (d : A) → i < length l → p (get_or l i d) ≡ false → all p l ≡ false
  all-failed [] i d h e = absurd (not-suc-le-zero h)
  all-failed (x ∷ l) zero d h e = rw e
  all-failed (x ∷ l) (suc i) d h e = rw (all-failed l i d (le_of_suc-le-suc h) e) (and_no (p x))
    where
      and_no : (b : Bool) → (b && false) ≡ false
      and_no true = refl
      and_no false = refl

  pub all-each : (l : List A) (d : A) → ((i : ℕ) → i < length l → p (get_or l i d) ≡ true) → all p l ≡ true
  all-each [] d h = refl
  all-each (x ∷ l) d h = rw (h zero (omega arith), all-each l d (λ i k. h (suc i) (suc-le-suc k)))

  pub all_true : (l : List A) (d : A) (i : ℕ) → all p l ≡ true → i < length l → p (get_or l i d) ≡ true
  all_true [] d i e h = absurd (not-suc-le-zero h)
  all_true (x ∷ l) d zero e h = both_left (p x) (all p l) e
  all_true (x ∷ l) d (suc i) e h = all_true l d i (both_right (p x) (all p l) e) (le_of_suc-le-suc h)

-- a test of what was kept is a test asked only of what passes
-- lists one behind the other
module _ {A : Type 0} where
  pub joined-append : (ls ms : List (List A)) → joined (ls ++ ms) ≡ joined ls ++ joined ms
  joined-append [] ms = refl
  joined-append (l ∷ ls) ms = ap (λ (r : List A). l ++ r) (joined-append ls ms) ∙ sym (append_assoc l (joined ls) (joined ms))

  pub joined_snoc : (ls : List (List A)) (l : List A) → joined (ls ++ (l ∷ [])) ≡ joined ls ++ l
  joined_snoc ls l = joined-append ls (l ∷ []) ∙ ap (λ (r : List A). joined ls ++ r) (append-nil l)

pub any-joined : {A B : Type 0} (p : B → Bool) (f : A → List B) (l : List A) → any p (joined (map f l)) ≡ any (λ x. any p (f x)) l
any-joined p f [] = refl
any-joined p f (x ∷ l) = any_append p (f x) (joined (map f l)) ∙ rw (any-joined p f l)

pub all_keep : {A : Type 0} (q r : A → Bool) (l : List A) → all r (keep q l) ≡ all (λ x. cond (q x) (r x) true) l
all_keep q r [] = refl
all_keep {A} q r (x ∷ l) = one (q x) (keep q l) ∙ ap (λ (b : Bool). cond (q x) (r x) true && b) (all_keep q r l)
  where
    one : (b : Bool) (m : List A) → all r (cons_if b x m) ≡ (cond b (r x) true && all r m)
    one true m = refl
    one false m = refl

pub all_map : {A B : Type 0} (f : A → B) (r : B → Bool) (l : List A) → all r (map f l) ≡ all (λ x. r (f x)) l
all_map f r [] = refl
all_map f r (x ∷ l) = ap (λ (b : Bool). r (f x) && b) (all_map f r l)

-- ---- tab and up_to

module _ {A : Type 0} (f : ℕ → A) where
  pub length-tab : (lo n : ℕ) → length (tab f lo n) ≡ n
  length-tab lo zero = refl
  length-tab lo (suc n) = ap suc (length-tab (suc lo) n)

  pub get_or-tab : (lo n k : ℕ) (d : A) → k < n → get_or (tab f lo n) k d ≡ f (lo + k)
  get_or-tab lo zero k d h = absurd (not-suc-le-zero h)
  get_or-tab lo (suc n) zero d h = ap f (sym (add-zero lo))
  get_or-tab lo (suc n) (suc k) d h = get_or-tab (suc lo) n k d (le_of_suc-le-suc h) ∙ ap f (suc-add lo k ∙ sym (add-suc lo k))

  tab-suc : (lo n : ℕ) → tab f lo (suc n) ≡ tab f lo n ++ (f (lo + n) ∷ [])
  tab-suc lo zero = ap (λ (k : ℕ). f k ∷ []) (sym (add-zero lo))
  tab-suc lo (suc n) =
      ap (λ (r : List A). f lo ∷ r) (tab-suc (suc lo) n ∙ ap (λ (k : ℕ). tab f (suc lo) n ++ (f k ∷ [])) (suc-add lo n ∙ sym (add-suc lo n)))

  pub tab_more : (lo n : ℕ) → tab f lo (n + 1) ≡ tab f lo n ++ (f (lo + n) ∷ [])
  tab_more lo n = rw (add-one n) (tab-suc lo n)

  pub take-tab : (lo n k : ℕ) → k ≤ n → take k (tab f lo n) ≡ tab f lo k
  take-tab lo n zero h = refl
  take-tab lo zero (suc k) h = absurd (not-suc-le-zero h)
  take-tab lo (suc n) (suc k) h = ap (λ (r : List A). f lo ∷ r) (take-tab (suc lo) n k (le_of_suc-le-suc h))

  pub map-tab : {B : Type 0} (g : A → B) (lo n : ℕ) → map g (tab f lo n) ≡ tab (λ k. g (f k)) lo n
  map-tab g lo zero = refl
  map-tab {B} g lo (suc n) = ap (λ (r : List B). g (f lo) ∷ r) (map-tab g (suc lo) n)

pub length-up_to : (n : ℕ) → length (up_to n) ≡ n
length-up_to n = length-tab (λ k. k) 0 n

pub get_or-up_to : (n k d : ℕ) → k < n → get_or (up_to n) k d ≡ k
get_or-up_to n k d h = get_or-tab (λ k. k) 0 n k d h ∙ zero-add k

pub up_to_more : (n : ℕ) → up_to (n + 1) ≡ up_to n ++ (n ∷ [])
up_to_more n = tab_more (λ k. k) 0 n ∙ ap (λ (k : ℕ). up_to n ++ (k ∷ [])) (zero-add n)

module _ (p : ℕ → Bool) where
  pub keep-up_to_more : (n : ℕ) → keep p (up_to (n + 1)) ≡ keep p (up_to n) ++ cons_if (p n) n []
  keep-up_to_more n = rw (up_to_more n) (keep_snoc p (up_to n) n)

  pub any-up_to_more : (n : ℕ) → any p (up_to (n + 1)) ≡ (any p (up_to n) || p n)
  any-up_to_more n = rw (up_to_more n) (any_snoc p (up_to n) n)

  pub any-up_to_hit : (n k : ℕ) → k < n → p k ≡ true → any p (up_to n) ≡ true
  any-up_to_hit n k h e = any_hit p (up_to n) k 0 (rw (length-up_to n) h) (rw (get_or-up_to n k 0 h) e)

  pub any-up_to-true : (n : ℕ) → any p (up_to n) ≡ true → (k : ℕ) × (k < n) × (p k ≡ true)
  any-up_to-true n e = here (any-true p (up_to n) 0 e)
    where
      here : (i : ℕ) × (i < length (up_to n)) × (p (get_or (up_to n) i 0) ≡ true) → (k : ℕ) × (k < n) × (p k ≡ true)
      here t = let q : t.0 < n = rw (length-up_to n) at t.1 in (t.0, q, rw (get_or-up_to n t.0 0 q) at t.2)

  pub any-up_to-none : (n : ℕ) → ((k : ℕ) → k < n → p k ≡ false) → any p (up_to n) ≡ false
  any-up_to-none n h = go (any p (up_to n)) refl
    where
      go : (b : Bool) → any p (up_to n) ≡ b → b ≡ false
      go true e = let f = any-up_to-true n e in true-false (sym f.2 ∙ h f.0 f.1)
      go false e = refl

  pub all-up_to_more : (n : ℕ) → all p (up_to (n + 1)) ≡ (all p (up_to n) && p n)
  all-up_to_more n = rw (up_to_more n) (all_snoc p (up_to n) n)

  pub all-up_to-failed : (n k : ℕ) → k < n → p k ≡ false → all p (up_to n) ≡ false
  all-up_to-failed n k h e = all-failed p (up_to n) k 0 (rw (length-up_to n) h) (rw (get_or-up_to n k 0 h) e)

  pub all-up_to-each : (n : ℕ) → ((k : ℕ) → k < n → p k ≡ true) → all p (up_to n) ≡ true
  all-up_to-each n h = all-each p (up_to n) 0 (λ i k. let q : i < n = rw (length-up_to n) at k in rw (get_or-up_to n i 0 q) (h i q))

  pub all-up_to-true : (n k : ℕ) → all p (up_to n) ≡ true → k < n → p k ≡ true
  all-up_to-true n k e h = rw (get_or-up_to n k 0 h) at (all_true p (up_to n) 0 k e (rw (length-up_to n) h))

-- ---- pad_to

module _ {A : Type 0} (n : ℕ) (z : A) where
  pub length-pad_to : (l : List A) → length (pad_to n z l) ≡ n
  length-pad_to = go n
    where
      go : (n : ℕ) (l : List A) → length (pad_to n z l) ≡ n
      go zero l = refl
      go (suc n) [] = ap suc (go n [])
      go (suc n) (x ∷ l) = ap suc (go n l)

  pub pad_to-none : pad_to n z [] ≡ replicate n z
  pad_to-none = go n
    where
      go : (n : ℕ) → pad_to n z [] ≡ replicate n z
      go zero = refl
      go (suc n) = ap (λ (r : List A). z ∷ r) (go n)

  -- one element more is one store; past the last place neither does anything
  pub pad_to_snoc : (l : List A) (x : A) → pad_to n z (l ++ (x ∷ [])) ≡ set (pad_to n z l) (length l) x
  pad_to_snoc l x = go n l
    where
      go : (n : ℕ) (l : List A) → pad_to n z (l ++ (x ∷ [])) ≡ set (pad_to n z l) (length l) x
      go zero l = refl
      go (suc n) [] = refl
      go (suc n) (y ∷ l) = ap (λ (r : List A). y ∷ r) (go n l)

  pub get_or-pad_to : (l : List A) (k : ℕ) → k < n → get_or (pad_to n z l) k z ≡ get_or l k z
  get_or-pad_to = go n
    where
      go : (n : ℕ) (l : List A) (k : ℕ) → k < n → get_or (pad_to n z l) k z ≡ get_or l k z
      go zero l k h = absurd (not-suc-le-zero h)
      go (suc n) [] zero h = refl
      go (suc n) [] (suc k) h = go n [] k (le_of_suc-le-suc h)
      go (suc n) (x ∷ l) zero h = refl
      go (suc n) (x ∷ l) (suc k) h = go n l k (le_of_suc-le-suc h)

  -- what was laid in is read again
  pub take-pad_to : (l : List A) → length l ≤ n → take (length l) (pad_to n z l) ≡ l
  take-pad_to = go n
    where
      go : (n : ℕ) (l : List A) → length l ≤ n → take (length l) (pad_to n z l) ≡ l
      go n [] h = refl
      go zero (x ∷ l) h = absurd (not-suc-le-zero h)
      go (suc n) (x ∷ l) h = ap (λ (r : List A). x ∷ r) (go n l (le_of_suc-le-suc h))

-- ---- how many pass

length-cons_if_both : {A B : Type 0} (b : Bool) (x : A) (y : B) (l : List A) (m : List B) → length l ≡ length m → length (cons_if b x l) ≡ length (cons_if b y m)
length-cons_if_both true x y l m e = ap suc e
length-cons_if_both false x y l m e = e

-- where the same places pass, as many pass
pub as_many : {A B : Type 0} (f : ℕ → A) (g : ℕ → B) (p : A → Bool) (q : B → Bool) (lo n : ℕ) → ((k : ℕ) → lo ≤ k → k < lo + n → p (f k) ≡ q (g k))
    → length (keep p (tab f lo n)) ≡ length (keep q (tab g lo n))
as_many f g p q lo zero h = refl
as_many f g p q lo (suc n) h =
    rw (h lo (omega arith) (omega arith))
    (length-cons_if_both (q (g lo)) (f lo) (g lo) (keep p (tab f (suc lo) n)) (keep q (tab g (suc lo) n))
    (as_many f g p q (suc lo) n (λ k a b. h k (omega arith) (omega arith))))

length-cons_if_more : (b : Bool) (x : ℕ) (l m : List ℕ) → length l ≡ suc (length m) → length (cons_if b x l) ≡ suc (length (cons_if b x m))
length-cons_if_more true x l m e = ap suc e
length-cons_if_more false x l m e = e

-- where one place no longer passes, one less passes
pub one_less : (p q : ℕ → Bool) (i lo n : ℕ) → lo ≤ i → i < lo + n → p i ≡ true → q i ≡ false → ((k : ℕ) → (k ≡ i → ⊥) → p k ≡ q k)
    → length (keep p (tab (λ k. k) lo n)) ≡ suc (length (keep q (tab (λ k. k) lo n)))
one_less p q i lo zero a b pi qi h = absurd (omega arith)
one_less p q i lo (suc n) a b pi qi h = which (λ l. one_less p q i (suc lo) n l (omega arith) pi qi h) (eq-or-lt_of_le a)
  where
    which : (lo < i → length (keep p (tab (λ k. k) (suc lo) n)) ≡ suc (length (keep q (tab (λ k. k) (suc lo) n)))) → (lo ≡ i) ⊎ (lo < i)
        → length (cons_if (p lo) lo (keep p (tab (λ k. k) (suc lo) n))) ≡ suc (length (cons_if (q lo) lo (keep q (tab (λ k. k) (suc lo) n))))
    which later (inl e) =
        rw (ap p e ∙ pi, ap q e ∙ qi) (ap suc (as_many (λ k. k) (λ k. k) p q (suc lo) n (λ k u v. h k (λ z. omega arith))))
    which later (inr l) =
        rw (h lo (λ z. omega arith))
        (length-cons_if_more (q lo) lo (keep p (tab (λ k. k) (suc lo) n)) (keep q (tab (λ k. k) (suc lo) n)) (later l))
