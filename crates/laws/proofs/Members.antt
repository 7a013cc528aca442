-- Members: predicates on lists as data (each element; each two elements), membership, and how `keep`, `map` and `take` carry them.
use mathlib.Core.Path.{◌≡◌, refl, sym, ap, ◌∙◌, subst}
use mathlib.Core.Bool.{Bool, true, false, not, ◌||◌}
use mathlib.Core.List.{List, [], ◌∷◌, ◌++◌, map, Memᴰ}
use mathlib.Core.Option.{none}
use mathlib.Core.Logic.{◌⊎◌, inl, inr}
use native.Mathlib.Nat.{not-suc-le-zero, le_of_suc-le-suc, eq-or-lt_of_le}
use native.Mathlib.Omega.{arith}
use lib.Dec.{eqb}
use lib.ListN.{length, get_or, take}
use borrow.Author.Tests.{eqb-true, eqb-false, ne_eqb, not-true}
use Prim.Native.Nat.{ℕ, zero, suc, ◌+◌, ◌≤◌, ◌<◌, zero-le, suc-le-suc}
use Rattle.laws.specs.Lists.{cons_if, keep, any, first_bad, joined, last_d, tab, up_to}
use Rattle.laws.proofs.Lists.{true-false, keep_yes, keep_no, neither_left, neither_right, length-up_to}
use Rattle.laws.proofs.Loops.{first_bad-passes}

module _ {A : Type 0} where
  -- every element has P
  pub data All (P : A → Type 0) : List A → Type 0 where
    empty : All P []
    also : {x : A} {l : List A} → P x → All P l → All P (x ∷ l)

  -- every element stands in R to every later one
  pub data Pairs (R : A → A → Type 0) : List A → Type 0 where
    alone : Pairs R []
    before : {x : A} {l : List A} → All (R x) l → Pairs R l → Pairs R (x ∷ l)

  -- every element stands in R to its neighbour behind it
  pub data Chain (R : A → A → Type 0) : List A → Type 0 where
    no_link : Chain R []
    last_link : {x : A} → Chain R (x ∷ [])
    link : {x y : A} {l : List A} → R x y → Chain R (y ∷ l) → Chain R (x ∷ y ∷ l)

  module _ {P : A → Type 0} where
    pub all_head : {x : A} {l : List A} → All P (x ∷ l) → P x
    all_head (also p r) = p

    pub all_tail : {x : A} {l : List A} → All P (x ∷ l) → All P l
    all_tail (also p r) = r

    pub all_weaker : {Q : A → Type 0} {l : List A} → ((x : A) → P x → Q x) → All P l → All Q l
    all_weaker f empty = empty
    all_weaker f (also {x} p r) = also (f x p) (all_weaker f r)

    pub all_member : {l : List A} {x : A} → All P l → Memᴰ x l → P x
    all_member (also p r) (mathlib.Core.List.Memᴰ.head e) = subst P (sym e) p
    all_member (also p r) (mathlib.Core.List.Memᴰ.tail m) = all_member r m
    all_member empty x6 = elim x6 [ ]

    pub all_of_members : (l : List A) → ((x : A) → Memᴰ x l → P x) → All P l
    all_of_members [] h = empty
    all_of_members (x ∷ l) h = also (h x (mathlib.Core.List.Memᴰ.head refl)) (all_of_members l (λ y m. h y (mathlib.Core.List.Memᴰ.tail m)))

    pub all_get_d : {l : List A} (d : A) → All P l → (k : ℕ) → k < length l → P (get_or l k d)
    all_get_d d empty k h = absurd (not-suc-le-zero h)
    all_get_d d (also p r) zero h = p
    all_get_d d (also p r) (suc k) h = all_get_d d r k (le_of_suc-le-suc h)

    -- what also holds of the default holds at every place
    pub all-get_or-or : {l : List A} (d : A) → All P l → P d → (k : ℕ) → P (get_or l k d)
    all-get_or-or d empty q k = q
    all-get_or-or d (also p r) q zero = p
    all-get_or-or d (also p r) q (suc k) = all-get_or-or d r q k

    pub all_of_places : (l : List A) (d : A) → ((k : ℕ) → k < length l → P (get_or l k d)) → All P l
    all_of_places [] d h = empty
    all_of_places (x ∷ l) d h = also (h zero (suc-le-suc zero-le)) (all_of_places l d (λ k w. h (suc k) (suc-le-suc w)))

    pub all_append : {l m : List A} → All P l → All P m → All P (l ++ m)
    all_append empty q = q
    all_append (also p r) q = also p (all_append r q)

    pub all_take : (k : ℕ) {l : List A} → All P l → All P (take k l)
    all_take zero h = empty
    all_take (suc k) empty = empty
    all_take (suc k) (also p r) = also p (all_take k r)

    all-cons_if : (b : Bool) (x : A) {l : List A} → P x → All P l → All P (cons_if b x l)
    all-cons_if true x p r = also p r
    all-cons_if false x p r = r

    pub all_keep : (p : A → Bool) {l : List A} → All P l → All P (keep p l)
    all_keep p empty = empty
    all_keep p (also {x} h r) = all-cons_if (p x) x h (all_keep p r)

  pub all_both : {P Q : A → Type 0} {l : List A} → All P l → All Q l → All (λ x. P x × Q x) l
  all_both empty empty = empty
  all_both (also p r) (also q s) = also (p, q) (all_both r s)

  -- what `first_bad` passed
  pub all_passed : (p : A → Bool) (l : List A) → first_bad p l ≡ none → All (λ x. p x ≡ true) l
  all_passed p [] e = empty
  all_passed p (x ∷ l) e = all_of_places (x ∷ l) x (λ k w. first_bad-passes p (x ∷ l) x k e w)

  pub member_get_or : (l : List A) (d : A) (k : ℕ) → k < length l → Memᴰ (get_or l k d) l
  member_get_or [] d k h = absurd (not-suc-le-zero h)
  member_get_or (x ∷ l) d zero h = mathlib.Core.List.Memᴰ.head refl
  member_get_or (x ∷ l) d (suc k) h = mathlib.Core.List.Memᴰ.tail (member_get_or l d k (le_of_suc-le-suc h))

  -- ---- keep

  module _ (p : A → Bool) where
    cons_if-all_pass : (b : Bool) (x : A) (l : List A) → p x ≡ b → All (λ y. p y ≡ true) l → All (λ y. p y ≡ true) (cons_if b x l)
    cons_if-all_pass true x l e r = also e r
    cons_if-all_pass false x l e r = r

    pub keep-passes : (l : List A) → All (λ y. p y ≡ true) (keep p l)
    keep-passes [] = empty
    keep-passes (x ∷ l) = cons_if-all_pass (p x) x (keep p l) refl (keep-passes l)

    pub keep_all : {l : List A} → All (λ y. p y ≡ true) l → keep p l ≡ l
    keep_all empty = refl
    keep_all (also {x} {l} e r) = keep_yes p x l e ∙ ap (λ (k : List A). x ∷ k) (keep_all r)

    pub keep-nothing : {l : List A} → All (λ y. p y ≡ false) l → keep p l ≡ []
    keep-nothing empty = refl
    keep-nothing (also {x} {l} e r) = keep_no p x l e ∙ keep-nothing r

    cons_if_member : (b : Bool) (x y : A) (l : List A) → Memᴰ y l → Memᴰ y (cons_if b x l)
    cons_if_member true x y l m = mathlib.Core.List.Memᴰ.tail m
    cons_if_member false x y l m = m

    pub keep_member : {x : A} {l : List A} → p x ≡ true → Memᴰ x l → Memᴰ x (keep p l)
    keep_member {x} e (mathlib.Core.List.Memᴰ.head {x = y} {xs = l} q) =
        subst (Memᴰ x) (sym (keep_yes p y l (ap p (sym q) ∙ e))) (mathlib.Core.List.Memᴰ.head q)
    keep_member {x} e (mathlib.Core.List.Memᴰ.tail {x = y} {xs = l} m) = cons_if_member (p y) y x (keep p l) (keep_member e m)

    cons_if-from : (b : Bool) (x y : A) (l m : List A) → (Memᴰ y l → Memᴰ y m) → Memᴰ y (cons_if b x l) → Memᴰ y (x ∷ m)
    cons_if-from true x y l m f (mathlib.Core.List.Memᴰ.head q) = mathlib.Core.List.Memᴰ.head q
    cons_if-from true x y l m f (mathlib.Core.List.Memᴰ.tail r) = mathlib.Core.List.Memᴰ.tail (f r)
    cons_if-from false x y l m f r = mathlib.Core.List.Memᴰ.tail (f r)

    pub keep-from : (l : List A) {x : A} → Memᴰ x (keep p l) → Memᴰ x l
    keep-from [] m = m
    keep-from (y ∷ l) {x} m = cons_if-from (p y) y x (keep p l) l (keep-from l) m

  -- ---- any

  pub record Found (p : A → Bool) (l : List A) : Type 0 where
    pub one : A
    pub among : Memᴰ one l
    pub passes : p one ≡ true

  module _ (p : A → Bool) where
    found-later : {x : A} {l : List A} → Found p l → Found p (x ∷ l)
    found-later f = record { one = f.one; among = mathlib.Core.List.Memᴰ.tail f.among; passes = f.passes }

    found_here : (b : Bool) (x : A) (l : List A) → p x ≡ b → (b || any p l) ≡ true → (any p l ≡ true → Found p l) → Found p (x ∷ l)
    found_here true x l e q f = record { one = x; among = mathlib.Core.List.Memᴰ.head refl; passes = e }
    found_here false x l e q f = found-later (f q)

    pub any_member : (l : List A) → any p l ≡ true → Found p l
    any_member [] e = true-false (sym e)
    any_member (x ∷ l) e = found_here (p x) x l refl e (any_member l)

    pub none_passes : (l : List A) → any p l ≡ false → All (λ x. p x ≡ false) l
    none_passes [] e = empty
    none_passes (x ∷ l) e = also (neither_left (p x) (any p l) e) (none_passes l (neither_right (p x) (any p l) e))

    pub any-among : {x : A} {l : List A} → Memᴰ x l → p x ≡ true → any p l ≡ true
    any-among (mathlib.Core.List.Memᴰ.head {x = y} q) e = rw (ap p (sym q) ∙ e)
    any-among (mathlib.Core.List.Memᴰ.tail {x = y} {xs = l} m) e = rw (any-among m e) (or-true (p y))
      where
        or-true : (b : Bool) → (b || true) ≡ true
        or-true true = refl
        or-true false = refl

  -- ---- pairs

  module _ {R : A → A → Type 0} where
    pub pairs-head : {x : A} {l : List A} → Pairs R (x ∷ l) → All (R x) l
    pairs-head (before h r) = h

    pub pairs_tail : {x : A} {l : List A} → Pairs R (x ∷ l) → Pairs R l
    pairs_tail (before h r) = r

    pub pairs_weaker : {S : A → A → Type 0} {l : List A} → ((x y : A) → R x y → S x y) → Pairs R l → Pairs S l
    pairs_weaker f alone = alone
    pairs_weaker f (before {x} h r) = before (all_weaker (f x) h) (pairs_weaker f r)

    pairs-cons_if : (b : Bool) (x : A) {l : List A} → All (R x) l → Pairs R l → Pairs R (cons_if b x l)
    pairs-cons_if true x h r = before h r
    pairs-cons_if false x h r = r

    pub pairs-keep : (p : A → Bool) {l : List A} → Pairs R l → Pairs R (keep p l)
    pairs-keep p alone = alone
    pairs-keep p (before {x} h r) = pairs-cons_if (p x) x (all_keep p h) (pairs-keep p r)

    pub pairs-get_or : {l : List A} (d : A) → Pairs R l → (j k : ℕ) → j < k → k < length l → R (get_or l j d) (get_or l k d)
    pairs-get_or d alone j k h w = absurd (not-suc-le-zero w)
    pairs-get_or d (before a r) j zero h w = absurd (not-suc-le-zero h)
    pairs-get_or d (before a r) zero (suc k) h w = all_get_d d a k (le_of_suc-le-suc w)
    pairs-get_or d (before a r) (suc j) (suc k) h w = pairs-get_or d r j k (le_of_suc-le-suc h) (le_of_suc-le-suc w)

    pub chain_of_places : (l : List A) (d : A) → ((k : ℕ) → suc k < length l → R (get_or l k d) (get_or l (suc k) d)) → Chain R l
    chain_of_places [] d h = no_link
    chain_of_places (x ∷ []) d h = last_link
    chain_of_places (x ∷ y ∷ l) d h =
        link (h 0 (suc-le-suc (suc-le-suc zero-le))) (chain_of_places (y ∷ l) d (λ k w. h (suc k) (suc-le-suc w)))

    -- a chain goes on in another if its last stands in R to the other's first
    pub chain_append : {l m : List A} (d : A) → Chain R l → Chain R m → (0 < length m → R (last_d l d) (get_or m 0 d)) → Chain R (l ++ m)
    chain_append d no_link c h = c
    chain_append d last_link no_link h = last_link
    chain_append d last_link last_link h = link (h (suc-le-suc zero-le)) last_link
    chain_append d last_link (link a r) h = link (h (suc-le-suc zero-le)) (link a r)
    chain_append d (link a r) c h = link a (chain_append d r c h)

    -- where R leads on through every element that has P, neighbours stand for all
    pub chain_pairs : {P : A → Type 0} {l : List A} → ((x y z : A) → R x y → P y → R y z → R x z) → All P l → Chain R l → Pairs R l
    chain_pairs through empty no_link = alone
    chain_pairs through (also p empty) last_link = before empty alone
    chain_pairs through (also p (also q r)) (link {x} {y} a c) =
        let rest = chain_pairs through (also q r) c in
        before (also a (all_weaker (λ z b. through x y z a q b) (pairs-head rest))) rest

-- ---- map

module _ {A B : Type 0} {P : B → Type 0} (f : A → B) where
  pub all_map : {l : List A} → All (λ x. P (f x)) l → All P (map f l)
  all_map empty = empty
  all_map (also p r) = also p (all_map r)

  pub all_unmap : (l : List A) → All P (map f l) → All (λ x. P (f x)) l
  all_unmap [] empty = empty
  all_unmap (x ∷ l) (also p r) = also p (all_unmap l r)

-- an element within a mapped list, whatever the defaults
pub map-get_or : {A B : Type 0} (f : A → B) (l : List A) (d : A) (e : B) (k : ℕ) → k < length l → get_or (map f l) k e ≡ f (get_or l k d)
map-get_or f [] d e k h = absurd (not-suc-le-zero h)
map-get_or f (x ∷ l) d e zero h = refl
map-get_or f (x ∷ l) d e (suc k) h = map-get_or f l d e k (le_of_suc-le-suc h)

-- what a mapped list's element was made of
pub record Source {A B : Type 0} (f : A → B) (l : List A) (y : B) : Type 0 where
  pub one : A
  pub among : Memᴰ one l
  pub gives : f one ≡ y

module _ {A B : Type 0} (f : A → B) where
  source_later : {x : A} {l : List A} {y : B} → Source f l y → Source f (x ∷ l) y
  source_later s = record { one = s.one; among = mathlib.Core.List.Memᴰ.tail s.among; gives = s.gives }

  pub source : (l : List A) {y : B} → Memᴰ y (map f l) → Source f l y
  source (x ∷ l) (mathlib.Core.List.Memᴰ.head e) = record { one = x; among = mathlib.Core.List.Memᴰ.head refl; gives = sym e }
  source (x ∷ l) (mathlib.Core.List.Memᴰ.tail m) = source_later (source l m)
  source [] {y = y} x' = elim x' [ ]

  pub member_map : {x : A} {l : List A} → Memᴰ x l → Memᴰ (f x) (map f l)
  member_map (mathlib.Core.List.Memᴰ.head e) = mathlib.Core.List.Memᴰ.head (ap f e)
  member_map (mathlib.Core.List.Memᴰ.tail m) = mathlib.Core.List.Memᴰ.tail (member_map m)

  pub pairs-map : {R : B → B → Type 0} {l : List A} → Pairs (λ x y. R (f x) (f y)) l → Pairs R (map f l)
  pairs-map alone = alone
  pairs-map {R} (before {x} a r) = before (all_map {P = R (f x)} f a) (pairs-map r)

  pub chain_map : {R : B → B → Type 0} {l : List A} → Chain (λ x y. R (f x) (f y)) l → Chain R (map f l)
  chain_map no_link = no_link
  chain_map last_link = last_link
  chain_map (link a r) = link a (chain_map r)

-- ---- lists made by tab, up_to and joined

module _ {A : Type 0} {P : A → Type 0} where
  pub all-tab : (f : ℕ → A) (lo n : ℕ) → ((k : ℕ) → lo ≤ k → k < lo + n → P (f k)) → All P (tab f lo n)
  all-tab f lo zero h = empty
  all-tab f lo (suc n) h = also (h lo (omega arith) (omega arith)) (all-tab f (suc lo) n (λ k a b. h k (omega arith) (omega arith)))

  pub all-joined : {ls : List (List A)} → All (All P) ls → All P (joined ls)
  all-joined empty = empty
  all-joined (also a r) = all_append a (all-joined r)

pub all-up_to : (n : ℕ) → All (λ k. k < n) (up_to n)
all-up_to n = all-tab {P = λ k. k < n} (λ k. k) 0 n (λ k a b. omega arith)

pairs-tab : {A : Type 0} {R : A → A → Type 0} (f : ℕ → A) (lo n : ℕ) → ((j k : ℕ) → j < k → R (f j) (f k)) → Pairs R (tab f lo n)
pairs-tab f lo zero h = alone
pairs-tab {R = R} f lo (suc n) h =
    before (all-tab {P = R (f lo)} f (suc lo) n (λ k a b. h lo k (omega arith))) (pairs-tab f (suc lo) n h)

pub pairs-up_to : (n : ℕ) → Pairs ◌<◌ (up_to n)
pairs-up_to n = pairs-tab {R = ◌<◌} (λ k. k) 0 n (λ j k h. h)

member_tab-step : {A : Type 0} (f : ℕ → A) (lo n k : ℕ) → (suc lo ≤ k → k < suc lo + n → Memᴰ (f k) (tab f (suc lo) n))
    → (lo ≡ k) ⊎ (lo < k) → k < lo + suc n → Memᴰ (f k) (f lo ∷ tab f (suc lo) n)
member_tab-step f lo n k later (inl e) b = mathlib.Core.List.Memᴰ.head (ap f (sym e))
member_tab-step f lo n k later (inr h) b = mathlib.Core.List.Memᴰ.tail (later h (omega arith))

pub member_tab : {A : Type 0} (f : ℕ → A) (lo n k : ℕ) → lo ≤ k → k < lo + n → Memᴰ (f k) (tab f lo n)
member_tab f lo zero k a b = absurd (omega arith)
member_tab f lo (suc n) k a b = member_tab-step f lo n k (member_tab f (suc lo) n k) (eq-or-lt_of_le a) b

-- ---- as many distinct numbers below n as there are numbers below n

abbrev pub Differ : ℕ → ℕ → Type 0
Differ a b = a ≡ b → ⊥

abbrev is_not : ℕ → ℕ → Bool
is_not n k = not (eqb k n)

is-not : (n k : ℕ) → Differ n k → is_not n k ≡ true
is-not n k h = rw (ne_eqb k n (λ e. h (sym e)))

without : (n : ℕ) (b : Bool) (k : ℕ) {l : List ℕ} → eqb k n ≡ b → All (Differ k) l → length l ≤ suc (length (keep (is_not n) l))
    → suc (length l) ≤ suc (length (cons_if (not b) k (keep (is_not n) l)))
without n true k e a r =
    let others = all_weaker (λ j h. is-not n j (λ q. h (eqb-true k n e ∙ q))) a in
    rw (keep_all (is_not n) others) (omega arith)
without n false k e a r = suc-le-suc r

one_less : (n : ℕ) {l : List ℕ} → Pairs Differ l → length l ≤ suc (length (keep (is_not n) l))
one_less n alone = zero-le
one_less n (before {x} a r) = without n (eqb x n) x refl a (one_less n r)

lower : (n k : ℕ) → k < suc n → is_not n k ≡ true → k < n
lower n k h e = omega (arith, eqb-false k n (not-true (eqb k n) e))

pub few : (n : ℕ) {l : List ℕ} → Pairs Differ l → All (λ k. k < n) l → length l ≤ n
few zero alone empty = zero-le
few zero (before a r) (also h s) = absurd (not-suc-le-zero h)
few (suc n) {l} d a =
    let kept = all_weaker (λ k h. lower n k h.0 h.1) (all_both (all_keep (is_not n) a) (keep-passes (is_not n) l)) in
    let fewer = few n (pairs-keep (is_not n) d) kept in
    omega (arith, one_less n d)

pub pigeonhole : (n k : ℕ) {l : List ℕ} → Pairs Differ l → All (λ j. j < n) l → length l ≡ n → k < n → Memᴰ k l
pigeonhole n k {l} d a c w = look (any (eqb k) l) refl
  where
    look : (b : Bool) → any (eqb k) l ≡ b → Memᴰ k l
    look true e = let f = any_member (eqb k) l e in mathlib.Core.List.Memᴰ.cast (eqb-true k f.one f.passes) f.among
    look false e =
        let others = all_weaker (λ j h. eqb-false k j h) (none_passes (eqb k) l e) in
        let many : suc (length l) ≤ n = few n (before others d) (also w a) in
        absurd (omega arith)

-- ---- a list of n numbers that has each number below n has none twice

still-there : (x k : ℕ) {l : List ℕ} → is_not x k ≡ true → Memᴰ k (x ∷ l) → Memᴰ k l
still-there x k e (mathlib.Core.List.Memᴰ.head q) = absurd (eqb-false k x (not-true (eqb k x) e) q)
still-there x k e (mathlib.Core.List.Memᴰ.tail m) = m

-- l has every number of m
abbrev Covers : List ℕ → List ℕ → Type 0
Covers l m = (k : ℕ) → Memᴰ k m → Memᴰ k l

covers-others : (x : ℕ) (m : List ℕ) {l : List ℕ} → Covers (x ∷ l) m → Covers l (keep (is_not x) m)
covers-others x m c k i = still-there x k (all_member (keep-passes (is_not x) m) i) (c k (keep-from (is_not x) m i))

covers-again : (x : ℕ) {m l : List ℕ} → Memᴰ x l → Covers (x ∷ l) m → Covers l m
covers-again x {m} {l} i c k j = behind (c k j)
  where
    behind : Memᴰ k (x ∷ l) → Memᴰ k l
    behind (mathlib.Core.List.Memᴰ.head e) = mathlib.Core.List.Memᴰ.cast e i
    behind (mathlib.Core.List.Memᴰ.tail t) = t

covering_long : (m l : List ℕ) → Pairs Differ m → Covers l m → length m ≤ length l
covering_long [] [] d c = zero-le
covering_long (k ∷ m) [] d c = absurd (mathlib.Core.List.Memᴰ.not-nil (c k (mathlib.Core.List.Memᴰ.head refl)))
covering_long m (x ∷ l) d c =
    omega (arith, one_less x d, covering_long (keep (is_not x) m) l (pairs-keep (is_not x) d) (covers-others x m c))

covering_once : (m l : List ℕ) → Pairs Differ m → Covers l m → length l ≤ length m → Pairs Differ l
covering_once m [] d c h = alone
covering_once m (x ∷ l) d c h =
    before (first (any (eqb x) l) refl)
    (covering_once (keep (is_not x) m) l (pairs-keep (is_not x) d) (covers-others x m c) (omega (arith, one_less x d, h)))
  where
    first : (b : Bool) → any (eqb x) l ≡ b → All (Differ x) l
    first true e =
        let f = any_member (eqb x) l e in
        let i : Memᴰ x l = mathlib.Core.List.Memᴰ.cast (eqb-true x f.one f.passes) f.among in
        absurd (omega (arith, covering_long m l d (covers-again x i c), h))
    first false e = all_weaker (λ j q. eqb-false x j q) (none_passes (eqb x) l e)

tab_differ : (lo n : ℕ) → Pairs Differ (tab (λ k. k) lo n)
tab_differ lo zero = alone
tab_differ lo (suc n) = before {x = lo} (all-tab {P = Differ lo} (λ k. k) (suc lo) n (λ k a b. omega arith)) (tab_differ (suc lo) n)

pub each-once : (n : ℕ) (l : List ℕ) → ((k : ℕ) → k < n → Memᴰ k l) → length l ≡ n → Pairs Differ l
each-once n l c h =
    covering_once (up_to n) l (tab_differ 0 n) (λ k i. c k (all_member (all-up_to n) i)) (omega (arith, h, length-up_to n))

-- of places in order, of elements
pub pairs_of_places : {A : Type 0} {R : A → A → Type 0} (l : List A) (d : A)
    → ((j k : ℕ) → j < k → k < length l → R (get_or l j d) (get_or l k d)) → Pairs R l
pairs_of_places [] d h = alone
pairs_of_places (x ∷ l) d h =
    before (all_of_places l d (λ k w. h 0 (suc k) (suc-le-suc zero-le) (suc-le-suc w)))
    (pairs_of_places l d (λ j k v w. h (suc j) (suc k) (suc-le-suc v) (suc-le-suc w)))

-- ---- functions and tests that agree on a list

pub map_same : {A B : Type 0} {f g : A → B} {l : List A} → All (λ x. f x ≡ g x) l → map f l ≡ map g l
map_same empty = refl
map_same (also e r) = rw (e, map_same r)

pub keep_same : {A : Type 0} {p q : A → Bool} {l : List A} → All (λ x. p x ≡ q x) l → keep p l ≡ keep q l
keep_same empty = refl
keep_same (also e r) = rw (e, keep_same r)
