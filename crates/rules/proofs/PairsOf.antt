-- The pairs of a list of messages are exactly its distinct pairs of task and deadline, in strict order of deadline and task, each
-- with the greatest release of its messages; and no second list is.
use mathlib.Core.Path.{◌≡◌, refl, sym, ◌∙◌, subst}
use mathlib.Core.List.Memᴰ
use mathlib.Core.List.{List, [], ◌∷◌, map, Memᴰ}
use mathlib.Core.Logic.{◌⊎◌, inl, inr}
use native.Mathlib.Nat.{le_refl, le_trans, le_antisymm, le-max_left, le-max_right, max-eq_left, max-eq_right, le_of_lt}
use native.Mathlib.Omega.{arith}
use Prim.Native.Nat.{◌≤◌, ◌<◌, Ordering}
use Rattle.laws.proofs.Members.{All, empty, also, Pairs, alone, before, all_member, all_weaker}
use Rattle.laws.proofs.Orders.{lt≢eq, lt≢gt, eq≢gt, compare_less, compare_same, compare_case, less_of, same_of, more_of, sorted_unique, le-or-lt}
use Rattle.rules.specs.Plan.{Plan}
use Rattle.rules.specs.Traffic.{Message, traffic}
use Rattle.rules.specs.Frames.{Pair, pair_of, pair_order, merged, by_order, with_pair, pairs_of, pairs}

-- ---- what the pairs of messages are; a message is here the pair that it would be alone

-- a lower number: an earlier deadline, or the same and a lower task
abbrev pub Before : Pair → Pair → Type 0
Before a b = pair_order a b ≡ Ordering.lt

-- f is the pair for the message m: of its task and deadline, and not released before it
pub record Covers (f m : Pair) : Type 0 where
  pub task : f.task ≡ m.task
  pub deadline : f.deadline ≡ m.deadline
  pub release : m.release ≤ f.release

pub record Covered (fs : List Pair) (m : Pair) : Type 0 where
  pub one : Pair
  pub among : Memᴰ one fs
  pub covers : Covers one m

pub record IsPairsOf (ms fs : List Pair) : Type 0 where
  -- in strict order, so that none stands twice
  pub sorted : Pairs Before fs
  -- each has task, deadline and release of a message
  pub comes : (f : Pair) → Memᴰ f fs → Memᴰ f ms
  -- each message has its pair, released no earlier
  pub covered : (m : Pair) → Memᴰ m ms → Covered fs m

-- ---- the order of pairs

pub pair_path : (a b : Pair) → a.task ≡ b.task → a.release ≡ b.release → a.deadline ≡ b.deadline → a ≡ b
pair_path a b t r d = λ i. record { task = t i; release = r i; deadline = d i }

module _ (a b : Pair) where
  pub by_deadline : a.deadline < b.deadline → Before a b
  unfolding pair_order
  by_deadline h = rw (compare_less a.deadline b.deadline h)

  pub by_task : a.deadline ≡ b.deadline → a.task < b.task → Before a b
  unfolding pair_order
  by_task e h = rw (e, compare_same b.deadline) (compare_less a.task b.task h)

  pub before_case : {C : Type 0} → Before a b → (a.deadline < b.deadline → C) → (a.deadline ≡ b.deadline → a.task < b.task → C) → C
  unfolding pair_order
  before_case {C} h first second =
      compare_case a.deadline b.deadline (λ l q. first l)
      (λ e q. second e (less_of a.task b.task (rw q at h)))
      (λ l q. let z : Ordering.gt ≡ Ordering.lt = rw q at h in lt≢gt (sym z))

  -- the order's three answers
  order_same : pair_order a b ≡ Ordering.eq → (a.task ≡ b.task) × (a.deadline ≡ b.deadline)
  unfolding pair_order
  order_same h =
      compare_case a.deadline b.deadline (λ l q. let z : Ordering.lt ≡ Ordering.eq = rw q at h in lt≢eq z)
      (λ e q. (same_of a.task b.task (rw q at h), e))
      (λ l q. let z : Ordering.gt ≡ Ordering.eq = rw q at h in eq≢gt (sym z))

pub before-not-same : (a b : Pair) → a.task ≡ b.task → a.deadline ≡ b.deadline → Before a b → ⊥
before-not-same a b t d h = before_case a b h (λ l. omega arith) (λ e l. omega arith)

pub before_irreflexive : (a : Pair) → Before a a → ⊥
before_irreflexive a = before-not-same a a refl refl

pub before_transitive : (a b c : Pair) → Before a b → Before b c → Before a c
before_transitive a b c p q =
    before_case a b p
    (λ h. before_case b c q (λ k. by_deadline a c (omega arith)) (λ e k. by_deadline a c (omega arith)))
    (λ e h. before_case b c q (λ k. by_deadline a c (omega arith)) (λ f k. by_task a c (omega arith) (omega arith)))

order_more : (a b : Pair) → pair_order a b ≡ Ordering.gt → Before b a
unfolding pair_order
order_more a b h =
    compare_case a.deadline b.deadline (λ l q. let z : Ordering.lt ≡ Ordering.gt = rw q at h in lt≢gt z)
    (λ e q. by_task b a (sym e) (more_of a.task b.task (rw q at h)))
    (λ l q. by_deadline b a l)

-- ---- one message more

insert_behind : (x m : Pair) (fs : List Pair) → Before x m → All (Before x) fs → All (Before x) (with_pair m fs)
unfolding with_pair merged pair_order
insert_behind x m [] h a = also h a
insert_behind x m (f ∷ fs) h (also b a) = placed (pair_order m f) (insert_behind x m fs h a)
  where
    placed : (o : Ordering) {rest : List Pair} → All (Before x) rest → All (Before x) (by_order o m f fs rest)
    placed Ordering.lt r = also h (also b a)
    placed Ordering.eq r = also b a
    placed Ordering.gt r = also b r

insert_sorted : (m : Pair) (fs : List Pair) → Pairs Before fs → Pairs Before (with_pair m fs)
unfolding with_pair merged pair_order
insert_sorted m [] p = before empty p
insert_sorted m (f ∷ fs) (before a p) = placed (pair_order m f) refl (insert_sorted m fs p)
  where
    placed : (o : Ordering) → pair_order m f ≡ o → Pairs Before (with_pair m fs) → Pairs Before (by_order o m f fs (with_pair m fs))
    placed Ordering.lt e r = before (also e (all_weaker (λ g h. before_transitive m f g e h) a)) (before a p)
    placed Ordering.eq e r = before a p
    placed Ordering.gt e r = before (insert_behind f m fs (order_more m f e) a) r

merged-is : (m f : Pair) → pair_order m f ≡ Ordering.eq → (merged m f ≡ m) ⊎ (merged m f ≡ f)
unfolding merged
merged-is m f e = which (order_same m f e) (le-or-lt m.release f.release)
  where
    which : (m.task ≡ f.task) × (m.deadline ≡ f.deadline) → (m.release ≤ f.release) ⊎ (f.release < m.release)
        → (merged m f ≡ m) ⊎ (merged m f ≡ f)
    which k (inl h) = inr (pair_path (merged m f) f refl (max-eq_right h) refl)
    which k (inr h) = inl (pair_path (merged m f) m (sym k.0) (max-eq_left (le_of_lt h)) (sym k.1))

insert_from : (m : Pair) (fs : List Pair) {x : Pair} → Memᴰ x (with_pair m fs) → (x ≡ m) ⊎ Memᴰ x fs
unfolding with_pair
insert_from m [] (Memᴰ.head e) = inl e
insert_from m [] (Memᴰ.tail i) = inr i
insert_from m (f ∷ fs) {x} i = placed (pair_order m f) refl (insert_from m fs) i
  where
    later : (x ≡ m) ⊎ Memᴰ x fs → (x ≡ m) ⊎ Memᴰ x (f ∷ fs)
    later (inl e) = inl e
    later (inr j) = inr (Memᴰ.tail j)

    both_are : x ≡ merged m f → (merged m f ≡ m) ⊎ (merged m f ≡ f) → (x ≡ m) ⊎ Memᴰ x (f ∷ fs)
    both_are e (inl q) = inl (e ∙ q)
    both_are e (inr q) = inr (Memᴰ.head (e ∙ q))

    placed : (o : Ordering) → pair_order m f ≡ o → {rest : List Pair} → (Memᴰ x rest → (x ≡ m) ⊎ Memᴰ x fs)
        → Memᴰ x (by_order o m f fs rest) → (x ≡ m) ⊎ Memᴰ x (f ∷ fs)
    placed Ordering.lt q r (Memᴰ.head e) = inl e
    placed Ordering.lt q r (Memᴰ.tail j) = inr j
    placed Ordering.eq q r (Memᴰ.head e) = both_are e (merged-is m f q)
    placed Ordering.eq q r (Memᴰ.tail j) = inr (Memᴰ.tail j)
    placed Ordering.gt q r (Memᴰ.head e) = inr (Memᴰ.head e)
    placed Ordering.gt q r (Memᴰ.tail j) = later (r j)

-- ---- every message keeps its pair

covers-itself : (f : Pair) → Covers f f
covers-itself f = record { task = refl; deadline = refl; release = le_refl f.release }

covers-again : {a b c : Pair} → Covers a b → Covers b c → Covers a c
covers-again p q = record { task = p.task ∙ q.task; deadline = p.deadline ∙ q.deadline; release = le_trans q.release p.release }

covered-here : {f m : Pair} {fs : List Pair} → Covers f m → Covered (f ∷ fs) m
covered-here {f} c = record { one = f; among = Memᴰ.head refl; covers = c }

covered-later : {f m : Pair} {fs : List Pair} → Covered fs m → Covered (f ∷ fs) m
covered-later c = record { one = c.one; among = Memᴰ.tail c.among; covers = c.covers }

merged-covers : (m f : Pair) → pair_order m f ≡ Ordering.eq → Covers (merged m f) m
unfolding merged
merged-covers m f e =
    let k = order_same m f e in
    record { task = sym k.0; deadline = sym k.1; release = le-max_left m.release f.release }

merged-covers_old : (m f : Pair) → Covers (merged m f) f
unfolding merged
merged-covers_old m f = record { task = refl; deadline = refl; release = le-max_right m.release f.release }

insert_covers : (m : Pair) (fs : List Pair) → Covered (with_pair m fs) m
unfolding with_pair
insert_covers m [] = covered-here (covers-itself m)
insert_covers m (f ∷ fs) = placed (pair_order m f) refl (insert_covers m fs)
  where
    placed : (o : Ordering) → pair_order m f ≡ o → {rest : List Pair} → Covered rest m → Covered (by_order o m f fs rest) m
    placed Ordering.lt e r = covered-here (covers-itself m)
    placed Ordering.eq e r = covered-here (merged-covers m f e)
    placed Ordering.gt e r = covered-later r

insert_keeps : (m : Pair) (fs : List Pair) (g : Pair) → Memᴰ g fs → Covered (with_pair m fs) g
unfolding with_pair
insert_keeps m [] g i = absurd (Memᴰ.not-nil i)
insert_keeps m (f ∷ fs) g i = placed (pair_order m f) (insert_keeps m fs g) i
  where
    itself : (l : List Pair) → Memᴰ g l → Covered l g
    itself l i = record { one = g; among = i; covers = covers-itself g }

    placed : (o : Ordering) {rest : List Pair} → (Memᴰ g fs → Covered rest g) → Memᴰ g (f ∷ fs)
        → Covered (by_order o m f fs rest) g
    placed Ordering.lt {rest} r i = itself (m ∷ f ∷ fs) (Memᴰ.tail i)
    placed Ordering.eq {rest} r (Memᴰ.head e) = covered-here (subst (Covers (merged m f)) (sym e) (merged-covers_old m f))
    placed Ordering.eq {rest} r (Memᴰ.tail i) = itself (merged m f ∷ fs) (Memᴰ.tail i)
    placed Ordering.gt {rest} r (Memᴰ.head e) = itself (f ∷ rest) (Memᴰ.head e)
    placed Ordering.gt {rest} r (Memᴰ.tail i) = covered-later (r i)

insert_pair : (m : Pair) (ms fs : List Pair) → IsPairsOf ms fs → IsPairsOf (m ∷ ms) (with_pair m fs)
insert_pair m ms fs h = record { sorted = insert_sorted m fs h.sorted; comes = comes; covered = covered }
  where
    from : (f : Pair) → (f ≡ m) ⊎ Memᴰ f fs → Memᴰ f (m ∷ ms)
    from f (inl e) = Memᴰ.head e
    from f (inr i) = Memᴰ.tail (h.comes f i)

    comes : (f : Pair) → Memᴰ f (with_pair m fs) → Memᴰ f (m ∷ ms)
    comes f i = from f (insert_from m fs i)

    kept : (x : Pair) → Covered fs x → Covered (with_pair m fs) x
    kept x c =
        let k = insert_keeps m fs c.one c.among in
        record { one = k.one; among = k.among; covers = covers-again k.covers c.covers }

    covered : (x : Pair) → Memᴰ x (m ∷ ms) → Covered (with_pair m fs) x
    covered x (Memᴰ.head e) = subst (Covered (with_pair m fs)) (sym e) (insert_covers m fs)
    covered x (Memᴰ.tail i) = kept x (h.covered x i)

-- ---- the theorems

pub pairs_of_lem : (ms : List Message) → IsPairsOf (map pair_of ms) (pairs_of ms)
unfolding pairs_of
pairs_of_lem [] = record { sorted = alone; comes = λ f i. i; covered = λ m i. absurd (Memᴰ.not-nil i) }
pairs_of_lem (m ∷ ms) = insert_pair (pair_of m) (map pair_of ms) (pairs_of ms) (pairs_of_lem ms)

pub plan-pairs : (p : Plan) → IsPairsOf (map pair_of (traffic p).messages) (pairs p)
unfolding pairs
plan-pairs p = pairs_of_lem (traffic p).messages

-- a pair stands once
pub one_of_a_pair : {fs : List Pair} → Pairs Before fs → (a b : Pair) → Memᴰ a fs → Memᴰ b fs → a.task ≡ b.task
    → a.deadline ≡ b.deadline → a ≡ b
one_of_a_pair (before {x} h p) a b (Memᴰ.head e) (Memᴰ.head q) t d = e ∙ sym q
one_of_a_pair (before {x} h p) a b (Memᴰ.head e) (Memᴰ.tail j) t d =
    absurd (before-not-same a b t d (subst (λ (f : Pair). Before f b) (sym e) (all_member h j)))
one_of_a_pair (before {x} h p) a b (Memᴰ.tail i) (Memᴰ.head q) t d =
    absurd (before-not-same b a (sym t) (sym d) (subst (λ (f : Pair). Before f a) (sym q) (all_member h i)))
one_of_a_pair (before {x} h p) a b (Memᴰ.tail i) (Memᴰ.tail j) t d = one_of_a_pair p a b i j t d
one_of_a_pair alone a b x9 _ t d = elim x9 [ ]

-- a pair's release is the greatest of its messages' releases
pub release-greatest : {ms fs : List Pair} → IsPairsOf ms fs → (f m : Pair) → Memᴰ f fs → Memᴰ m ms → f.task ≡ m.task
    → f.deadline ≡ m.deadline → m.release ≤ f.release
release-greatest h f m i j t d =
    let c = h.covered m j in
    let e : c.one ≡ f = one_of_a_pair h.sorted c.one f c.among i (c.covers.task ∙ sym t) (c.covers.deadline ∙ sym d) in
    subst (λ (g : Pair). m.release ≤ g.release) e c.covers.release

pair-within : {ms fs gs : List Pair} → IsPairsOf ms fs → IsPairsOf ms gs → (f : Pair) → Memᴰ f fs → Memᴰ f gs
pair-within p q f i =
    let c = q.covered f (p.comes f i) in
    let g = c.one in
    let t : f.task ≡ g.task = sym c.covers.task in
    let d : f.deadline ≡ g.deadline = sym c.covers.deadline in
    let up : g.release ≤ f.release = release-greatest p f g i (q.comes g c.among) t d in
    let e : f ≡ g = pair_path f g t (le_antisymm c.covers.release up) d in
    Memᴰ.cast e c.among

pub pairs_unique : {ms fs gs : List Pair} → IsPairsOf ms fs → IsPairsOf ms gs → fs ≡ gs
pairs_unique {ms} {fs} {gs} p q =
    sorted_unique before_irreflexive before_transitive fs gs p.sorted q.sorted (pair-within p q) (pair-within q p)
