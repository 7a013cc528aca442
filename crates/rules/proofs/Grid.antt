-- The pairs of the runs of bus tasks as a grid: deadlines 1 to P, at each the tasks below n, at each of these the greatest release
-- of a message that is read, or none. So pairs can be found deadline by deadline, without sorting; and a deadline at which no run ends may be
-- passed over.
use mathlib.Core.Path.{◌≡◌, refl, sym, ap, ap₂, ◌∙◌, subst}
use mathlib.Core.Bool.{Bool, true, false, cond, ◌&&◌}
use mathlib.Core.List.{List, [], ◌∷◌, ◌++◌, append_assoc}
use mathlib.Core.Logic.{◌⊎◌, inl, inr}
use native.Mathlib.Nat.{eq-or-lt_of_le, zero-max, max-zero, suc-max-suc, suc-mul, eq-zero-or-pos, div-zero, div-mul_cancel, le-div_iff_mul-le, mul-le-mul_right, mul-pos, dvd-mul_left, ne_of_lt, eq-zero_of_zero-dvd, zero-mul}
use native.Mathlib.Omega.{arith}
use borrow.Author.Tests.{eq-eqb, ne_eqb, eqb-true, ltb-true}
use lib.Dec.{eqb, ltb}
use Prim.Native.Nat.{ℕ, zero, suc, ◌+◌, ◌*◌, ◌-◌, ◌/◌, ◌≤◌, ◌<◌, max, compare, Ordering}
use Rattle.laws.specs.Lists.{cons_if, keep, all, tab}
use Rattle.laws.specs.Numbers.{divides}
use Rattle.laws.proofs.Lists.{tested, true-false, both_left, both_right}
use Rattle.laws.proofs.Orders.{compare_less, compare_more, compare_same}
use Rattle.laws.proofs.Divisors.{divides-true, divides-is}
use Rattle.rules.specs.Traffic.{Run, Message, message, messages_of}
use Rattle.rules.specs.Frames.{Pair, pair_of, then_by, pair_order, merged, with_pair, pairs_of}
use Rattle.rules.specs.Readers.{is_read_by, is_read_message, read_messages_of, read_messages}
use Rattle.rules.specs.Direct.{is_end, is_due, release_for}

-- ---- the grid

abbrev pub pair : ℕ → ℕ → ℕ → Pair
pair t r d = record { task = t; release = r; deadline = d }

-- What a place of the grid holds: 0 for nothing, else one more than the release. The pair that it stands for, if any.
abbrev pub cell : ℕ → ℕ → ℕ → List Pair
cell t d zero = []
cell t d (suc r) = pair t r d ∷ []

-- the pairs at deadline d of the tasks t, .., t + n - 1, where f says what each place holds
abbrev pub row : (ℕ → ℕ) → ℕ → ℕ → ℕ → List Pair
row f d t zero = []
row f d t (suc n) = cell t d (f t) ++ row f d (suc t) n

-- the pairs at the deadlines d, .., d + k - 1 of the tasks below n, where f d t says what the place holds
abbrev pub grid : (ℕ → ℕ → ℕ) → ℕ → ℕ → ℕ → List Pair
grid f n d zero = []
grid f n d (suc k) = row (f d) d 0 n ++ grid f n (suc d) k

pub row_same : (f g : ℕ → ℕ) (d t n : ℕ) → ((u : ℕ) → t ≤ u → u < t + n → f u ≡ g u) → row f d t n ≡ row g d t n
row_same f g d t zero h = refl
row_same f g d t (suc n) h =
    ap₂ (λ (x : ℕ) (l : List Pair). cell t d x ++ l) (h t (omega arith) (omega arith))
    (row_same f g d (suc t) n (λ u a b. h u (omega arith) (omega arith)))

pub grid-same : (f g : ℕ → ℕ → ℕ) (n d k : ℕ) → ((e t : ℕ) → d ≤ e → e < d + k → t < n → f e t ≡ g e t) → grid f n d k ≡ grid g n d k
grid-same f g n d zero h = refl
grid-same f g n d (suc k) h =
    ap₂ (λ (a b : List Pair). a ++ b) (row_same (f d) (g d) d 0 n (λ u a b. h d u (omega arith) (omega arith) (omega arith)))
    (grid-same f g n (suc d) k (λ e t a b c. h e t (omega arith) (omega arith) c))

pub row_empty : (f : ℕ → ℕ) (d t n : ℕ) → ((u : ℕ) → t ≤ u → u < t + n → f u ≡ 0) → row f d t n ≡ []
row_empty f d t zero h = refl
row_empty f d t (suc n) h =
    rw (h t (omega arith) (omega arith)) (row_empty f d (suc t) n (λ u a b. h u (omega arith) (omega arith)))

-- deadlines at which nothing stands may be passed over
pub grid-nothing : (f : ℕ → ℕ → ℕ) (n d k : ℕ) → ((e t : ℕ) → d ≤ e → e < d + k → t < n → f e t ≡ 0) → grid f n d k ≡ []
grid-nothing f n d zero h = refl
grid-nothing f n d (suc k) h =
    rw (row_empty (f d) d 0 n (λ u a b. h d u (omega arith) (omega arith) (omega arith)))
    (grid-nothing f n (suc d) k (λ e t a b c. h e t (omega arith) (omega arith) c))

-- ---- a message put into the grid

-- what a message adds to the place of deadline d and task t
abbrev pub adds : Pair → ℕ → ℕ → ℕ
adds m d t = cond (eqb m.deadline d && eqb m.task t) (suc m.release) 0

abbrev pub raised : Pair → (ℕ → ℕ → ℕ) → ℕ → ℕ → ℕ
raised m f d t = max (adds m d t) (f d t)

raised_other : (m : Pair) (f : ℕ → ℕ → ℕ) (d t : ℕ) → (m.deadline ≡ d → m.task ≡ t → ⊥) → raised m f d t ≡ f d t
raised_other m f d t h = which (tested (eqb m.deadline d)) (tested (eqb m.task t))
  where
    which : ((eqb m.deadline d ≡ true) ⊎ (eqb m.deadline d ≡ false)) → ((eqb m.task t ≡ true) ⊎ (eqb m.task t ≡ false)) → raised m f d t ≡ f d t
    which (inr e) b = rw e (zero-max (f d t))
    which (inl e) (inr q) = rw (e, q) (zero-max (f d t))
    which (inl e) (inl q) = absurd (h (eqb-true m.deadline d e) (eqb-true m.task t q))

module _ (a r e : ℕ) where
  abbrev m : Pair
  m = pair a r e

  -- where m stands against the place of deadline d and task t
  abbrev order : ℕ → ℕ → Ordering
  order d t = then_by (compare e d) (compare a t)

  -- m goes in front of these
  abbrev Leads : List Pair → Type 0
  Leads [] = Unit {0}
  Leads (f ∷ fs) = pair_order m f ≡ Ordering.lt

  leads : (l : List Pair) → Leads l → with_pair m l ≡ m ∷ l
  unfolding with_pair
  leads [] h = refl
  leads (f ∷ fs) h = rw h

  cell_leads : (d t x : ℕ) (l : List Pair) → order d t ≡ Ordering.lt → Leads l → Leads (cell t d x ++ l)
  unfolding pair_order
  cell_leads d t zero l o h = h
  cell_leads d t (suc x) l o h = o

  row_leads : (f : ℕ → ℕ) (d t n : ℕ) (l : List Pair) → ((u : ℕ) → t ≤ u → order d u ≡ Ordering.lt) → Leads l → Leads (row f d t n ++ l)
  row_leads f d t zero l o h = h
  row_leads f d t (suc n) l o h =
      rw (append_assoc (cell t d (f t)) (row f d (suc t) n) l)
      (cell_leads d t (f t) (row f d (suc t) n ++ l) (o t (omega arith)) (row_leads f d (suc t) n l (λ u b. o u (omega arith)) h))

  grid_leads : (f : ℕ → ℕ → ℕ) (n d k : ℕ) → e < d → Leads (grid f n d k)
  grid_leads f n d zero h = tt
  grid_leads f n d (suc k) h =
      row_leads (f d) d 0 n (grid f n (suc d) k) (λ u b. rw (compare_less e d h)) (grid_leads f n (suc d) k (omega arith))

  -- m goes behind these
  cell_passed : (d t x : ℕ) (l : List Pair) → order d t ≡ Ordering.gt → with_pair m (cell t d x ++ l) ≡ cell t d x ++ with_pair m l
  unfolding with_pair pair_order
  cell_passed d t zero l o = refl
  cell_passed d t (suc x) l o = rw o

  row_passed : (f : ℕ → ℕ) (d t n : ℕ) (l : List Pair) → d < e → with_pair m (row f d t n ++ l) ≡ row f d t n ++ with_pair m l
  row_passed f d t zero l h = refl
  row_passed f d t (suc n) l h =
      ap (with_pair m) (append_assoc (cell t d (f t)) (row f d (suc t) n) l)
      ∙ cell_passed d t (f t) (row f d (suc t) n ++ l) (rw (compare_more e d h))
      ∙ ap (λ (s : List Pair). cell t d (f t) ++ s) (row_passed f d (suc t) n l h)
      ∙ sym (append_assoc (cell t d (f t)) (row f d (suc t) n) (with_pair m l))

-- m into the row of its deadline
module _ (r e : ℕ) where
  -- at its own task
  row_here : (f : ℕ → ℕ → ℕ) (t n : ℕ) (l : List Pair) → Leads t r e l → with_pair (pair t r e) (row (f e) e t (suc n) ++ l) ≡ row (raised (pair t r e) f e) e t (suc n) ++ l
  unfolding with_pair pair_order merged
  row_here f t n l h =
      ap (with_pair (pair t r e)) (append_assoc (cell t e (f e t)) (row (f e) e (suc t) n) l)
      ∙ into (f e t) refl ∙ sym (append_assoc (cell t e (raised (pair t r e) f e t)) (row (raised (pair t r e) f e) e (suc t) n) l)
    where
      rest : row (f e) e (suc t) n ++ l ≡ row (raised (pair t r e) f e) e (suc t) n ++ l
      rest =
          ap (λ (s : List Pair). s ++ l)
          (row_same (f e) (raised (pair t r e) f e) e (suc t) n (λ u a b. sym (raised_other (pair t r e) f e u (λ p q. omega arith))))

      before : Leads t r e (row (f e) e (suc t) n ++ l)
      before = row_leads t r e (f e) e (suc t) n l (λ u b. rw (compare_same e) (compare_less t u b)) h

      here : raised (pair t r e) f e t ≡ max (suc r) (f e t)
      here = rw (eq-eqb e e refl, eq-eqb t t refl)

      into : (x : ℕ) → f e t ≡ x → with_pair (pair t r e) (cell t e x ++ (row (f e) e (suc t) n ++ l)) ≡ cell t e (raised (pair t r e) f e t) ++ (row (raised (pair t r e) f e) e (suc t) n ++ l)
      into zero q = rw (here, q, max-zero (suc r), ← rest) (leads t r e _ before)
      into (suc x) q = rw (here, q, suc-max-suc r x, ← rest, compare_same e, compare_same t)

  row_insert : (f : ℕ → ℕ → ℕ) (a t n : ℕ) (l : List Pair) → t ≤ a → a < t + n → Leads a r e l → with_pair (pair a r e) (row (f e) e t n ++ l) ≡ row (raised (pair a r e) f e) e t n ++ l
  row_insert f a t zero l h k w = absurd (omega arith)
  row_insert f a t (suc n) l h k w = which (row_insert f a (suc t) n l) (eq-or-lt_of_le h)
    where
      which : (suc t ≤ a → a < suc t + n → Leads a r e l → with_pair (pair a r e) (row (f e) e (suc t) n ++ l) ≡ row (raised (pair a r e) f e) e (suc t) n ++ l)
          → (t ≡ a) ⊎ (t < a) → with_pair (pair a r e) (row (f e) e t (suc n) ++ l) ≡ row (raised (pair a r e) f e) e t (suc n) ++ l
      which later (inl q) =
          subst (λ (b : ℕ). Leads b r e l → with_pair (pair b r e) (row (f e) e t (suc n) ++ l) ≡ row (raised (pair b r e) f e) e t (suc n) ++ l)
          q (row_here f t n l) w
      which later (inr q) =
          ap (with_pair (pair a r e)) (append_assoc (cell t e (f e t)) (row (f e) e (suc t) n) l)
          ∙ cell_passed a r e e t (f e t) (row (f e) e (suc t) n ++ l) (rw (compare_same e) (compare_more a t q))
          ∙ ap₂ (λ (x : ℕ) (s : List Pair). cell t e x ++ s) (sym (raised_other (pair a r e) f e t (λ p s. omega arith))) (later q (omega arith) w)
          ∙ sym (append_assoc (cell t e (raised (pair a r e) f e t)) (row (raised (pair a r e) f e) e (suc t) n) l)

-- m into the grid
grid-here : (a r d : ℕ) (f : ℕ → ℕ → ℕ) (n k : ℕ) → a < n → with_pair (pair a r d) (grid f n d (suc k)) ≡ grid (raised (pair a r d) f) n d (suc k)
grid-here a r d f n k s =
    row_insert r d f a 0 n (grid f n (suc d) k) (omega arith) (omega arith) (grid_leads a r d f n (suc d) k (omega arith))
    ∙ ap (λ (l : List Pair). row (raised (pair a r d) f d) d 0 n ++ l)
    (grid-same f (raised (pair a r d) f) n (suc d) k (λ e t p q w. sym (raised_other (pair a r d) f e t (λ u v. omega arith))))

grid_insert : (m : Pair) (f : ℕ → ℕ → ℕ) (n d k : ℕ) → d ≤ m.deadline → m.deadline < d + k → m.task < n → with_pair m (grid f n d k) ≡ grid (raised m f) n d k
grid_insert m f n d zero h w s = absurd (omega arith)
grid_insert m f n d (suc k) h w s = which (grid_insert m f n (suc d) k) (eq-or-lt_of_le h)
  where
    which : (suc d ≤ m.deadline → m.deadline < suc d + k → m.task < n → with_pair m (grid f n (suc d) k) ≡ grid (raised m f) n (suc d) k)
        → (d ≡ m.deadline) ⊎ (d < m.deadline) → with_pair m (grid f n d (suc k)) ≡ grid (raised m f) n d (suc k)
    which later (inl q) =
        subst (λ (e : ℕ). with_pair m (grid f n e (suc k)) ≡ grid (raised m f) n e (suc k)) (sym q)
        (grid-here m.task m.release m.deadline f n k s)
    which later (inr q) =
        row_passed m.task m.release m.deadline (f d) d 0 n (grid f n (suc d) k) q
        ∙ ap₂ (λ (a b : List Pair). a ++ b)
        (row_same (f d) (raised m f d) d 0 n (λ u a b. sym (raised_other m f d u (λ p s. omega arith))))
        (later q (omega arith) s)

-- ---- the pairs of messages

-- what the place of deadline d and task t holds after all these messages
abbrev pub best : List Message → ℕ → ℕ → ℕ
best [] d t = 0
best (m ∷ ms) d t = max (adds (pair_of m) d t) (best ms d t)

-- every message is of a task below n and has its deadline from 1 to P
pub data Within (n period : ℕ) : List Message → Type 0 where
  nothing : Within n period []
  also : {m : Message} {ms : List Message} → m.task < n → 0 < m.deadline → m.deadline ≤ period → Within n period ms → Within n period (m ∷ ms)

within-append : {n period : ℕ} {ms ns : List Message} → Within n period ms → Within n period ns → Within n period (ms ++ ns)
within-append nothing w = w
within-append (also a b c v) w = also a b c (within-append v w)

pub pairs_best : {n period : ℕ} {ms : List Message} → Within n period ms → pairs_of ms ≡ grid (best ms) n 1 period
unfolding pairs_of pair_of
pairs_best {n} {period} nothing = sym (grid-nothing (best []) n 1 period (λ e t a b c. refl))
pairs_best {n} {period} (also {m} {ms} a b c w) =
    ap (with_pair (pair_of m)) (pairs_best w) ∙ grid_insert (pair_of m) (best ms) n 1 period b (omega arith) a

max_assoc : (a b c : ℕ) → max (max a b) c ≡ max a (max b c)
max_assoc a b c = omega arith

best_append : (ms ns : List Message) (d t : ℕ) → best (ms ++ ns) d t ≡ max (best ms d t) (best ns d t)
best_append [] ns d t = sym (zero-max (best ns d t))
best_append (m ∷ ms) ns d t = ap (max (adds (pair_of m) d t)) (best_append ms ns d t) ∙ sym (max_assoc (adds (pair_of m) d t) (best ms d t) (best ns d t))

-- where only messages with some deadlines are kept, the others' places are empty
best_keep : (q : ℕ → Bool) (ms : List Message) (d t : ℕ) → best (keep (λ m. q m.deadline) ms) d t ≡ cond (q d) (best ms d t) 0
unfolding pair_of
best_keep q [] d t = nothing-either (q d)
  where
    nothing-either : (b : Bool) → zero ≡ cond b 0 0
    nothing-either true = refl
    nothing-either false = refl
best_keep q (m ∷ ms) d t = which (tested (eqb m.deadline d)) (q m.deadline) refl (best_keep q ms d t)
  where
    kept : List Message
    kept = keep (λ m. q m.deadline) ms

    which : (eqb m.deadline d ≡ true) ⊎ (eqb m.deadline d ≡ false) → (b : Bool) → q m.deadline ≡ b → best kept d t ≡ cond (q d) (best ms d t) 0
        → best (cons_if b m kept) d t ≡ cond (q d) (max (adds (pair_of m) d t) (best ms d t)) 0
    which (inl e) true h rest =
        let g : q d ≡ true = ap q (sym (eqb-true m.deadline d e)) ∙ h in
        rw g (ap (max (adds (pair_of m) d t)) (rw g at rest))
    which (inl e) false h rest = let g : q d ≡ false = ap q (sym (eqb-true m.deadline d e)) ∙ h in rw g (rw g at rest)
    which (inr e) true h rest = rw (e, zero-max (best kept d t), zero-max (best ms d t)) rest
    which (inr e) false h rest = rw (e, zero-max (best ms d t)) rest

within-cons_if : {n period : ℕ} (b : Bool) {m : Message} {ms : List Message} → Within n period (m ∷ []) → Within n period ms → Within n period (cons_if b m ms)
within-cons_if true (also h k l nothing) w = also h k l w
within-cons_if false h w = w

within-keep : {n period : ℕ} (q : Message → Bool) {ms : List Message} → Within n period ms → Within n period (keep q ms)
within-keep q nothing = nothing
within-keep q (also {m = m} h k l w) = within-cons_if (q m) (also h k l nothing) (within-keep q w)

-- ---- the pairs of runs

times_less : (period i j : ℕ) → 0 < period → i < j → i * period < j * period
times_less period i j p h =
    let s : suc i * period ≡ i * period + period = suc-mul i period in
    let w : suc i * period ≤ j * period = mul-le-mul_right period h in
    omega arith

-- the messages lo, .., lo + k - 1 of a run, none with deadline d
none-ends : (r : Run) (lo k d t : ℕ) → ((i : ℕ) → lo ≤ i → i * r.period ≡ d → ⊥) → best (tab (message r) lo k) d t ≡ 0
unfolding message pair_of
none-ends r lo zero d t h = refl
none-ends r lo (suc k) d t h =
    rw (ne_eqb (lo * r.period) d (h lo (omega arith)), none-ends r (suc lo) k d t (λ i w. h i (omega arith)))

-- one of them, message q, with deadline d
one-ends : (r : Run) (q lo k d t : ℕ) → 0 < r.period → lo ≤ q → q < lo + k → q * r.period ≡ d → best (tab (message r) lo k) d t ≡ cond (eqb r.task t) (suc ((q - 1) * r.period + r.worst)) 0
unfolding message pair_of
one-ends r q lo zero d t p h w e = absurd (omega arith)
one-ends r q lo (suc k) d t p h w e = which (one-ends r q (suc lo) k d t p) (eq-or-lt_of_le h)
  where
    which : (suc lo ≤ q → q < suc lo + k → q * r.period ≡ d → best (tab (message r) (suc lo) k) d t ≡ cond (eqb r.task t) (suc ((q - 1) * r.period + r.worst)) 0)
        → (lo ≡ q) ⊎ (lo < q) → best (tab (message r) lo (suc k)) d t ≡ cond (eqb r.task t) (suc ((q - 1) * r.period + r.worst)) 0
    which later (inl s) =
        let f : lo * r.period ≡ d = rw (← s) at e in
        let g : (i : ℕ) → lo < i → i * r.period ≡ d → ⊥ = λ i v u. ne_of_lt (times_less r.period lo i p v) (f ∙ sym u) in
        rw (eq-eqb (lo * r.period) d f, none-ends r (suc lo) k d t g, s) (max-zero (cond (eqb r.task t) (suc ((q - 1) * r.period + r.worst)) 0))
    which later (inr s) =
        let l : lo * r.period < q * r.period = times_less r.period lo q p s in
        rw (ne_eqb (lo * r.period) d (λ u. ne_of_lt l (u ∙ sym e)), zero-max (best (tab (message r) (suc lo) k) d t)) (later s (omega arith) e)

-- the number of the message with deadline d, and its release
pub message-number : (q period d : ℕ) → q * period ≡ d → 0 < d → (0 < q) × ((q - 1) * period ≡ d - period)
message-number zero period d e h = let z : zero * period ≡ 0 = zero-mul period in absurd (omega arith)
message-number (suc q) period d e h =
    let s : suc q * period ≡ q * period + period = suc-mul q period in
    let o : suc q - 1 ≡ q = omega arith in
    (omega arith, rw o (omega arith))

-- what a run adds to the place of deadline d and task t: its message that has to be there by d, if it ends there with one that is read
abbrev pub ends : (ℕ → List ℕ) → Run → ℕ → ℕ → ℕ
ends readers r d t = cond (is_due readers d t r) (suc (release_for d r)) 0

-- what the place of deadline d and task t holds after all these runs
abbrev pub latest : (ℕ → List ℕ) → List Run → ℕ → ℕ → ℕ
latest readers [] d t = 0
latest readers (r ∷ rs) d t = max (ends readers r d t) (latest readers rs d t)

module _ (period : ℕ) (r : Run) where
  -- of all its messages, whether they are read or not
  all-ends : (d t : ℕ) → 0 < d → d ≤ period → best (messages_of period r) d t ≡ cond (divides r.period d && eqb r.task t) (suc (release_for d r)) 0
  unfolding messages_of release_for
  all-ends d t h w = which (eq-zero-or-pos r.period) (tested (divides r.period d))
    where
      which : (r.period ≡ 0) ⊎ (0 < r.period) → (divides r.period d ≡ true) ⊎ (divides r.period d ≡ false) → best (tab (message r) 1 (period / r.period)) d t ≡ cond (divides r.period d && eqb r.task t) (suc (release_for d r)) 0
      which z (inr e) = rw (e, none-ends r 1 (period / r.period) d t (λ i v u. true-false (sym (divides-is r.period d (rw (← u) (dvd-mul_left r.period i))) ∙ e)))
      which (inl z) (inl e) =
          let none : d ≡ 0 = eq-zero_of_zero-dvd (rw z at (divides-true r.period d e)) in
          absurd (omega arith)
      which (inr p) (inl e) =
          let q = d / r.period in
          let m : q * r.period ≡ d = div-mul_cancel r.period (divides-true r.period d e) in
          let l : q ≤ period / r.period = (le-div_iff_mul-le p).1 (rw m w) in
          let f = message-number q r.period d m h in
          rw (e, one-ends r q 1 (period / r.period) d t p f.0 (omega arith) m, f.1)

  some-within : (n lo k : ℕ) → r.task < n → 0 < r.period → 0 < lo → lo + k ≤ suc (period / r.period) → Within n period (tab (message r) lo k)
  unfolding message
  some-within n lo zero h p l w = nothing
  some-within n lo (suc k) h p l w =
      also h (mul-pos l p) ((le-div_iff_mul-le p).0 (omega arith)) (some-within n (suc lo) k h p (omega arith) (omega arith))

  run-within : (n : ℕ) → r.task < n → Within n period (messages_of period r)
  unfolding messages_of
  run-within n h = which (eq-zero-or-pos r.period)
    where
      which : (r.period ≡ 0) ⊎ (0 < r.period) → Within n period (tab (message r) 1 (period / r.period))
      which (inl z) = rw (z, div-zero period) nothing
      which (inr p) = some-within n 1 (period / r.period) h p (omega arith) (omega arith)

-- every run is of a task below n
abbrev pub below : ℕ → Run → Bool
below n r = ltb r.task n

module _ (readers : ℕ → List ℕ) (period : ℕ) where
  run_ends : (r : Run) (d t : ℕ) → 0 < d → d ≤ period → best (read_messages_of readers period r) d t ≡ ends readers r d t
  unfolding read_messages_of is_read_message is_due is_end
  run_ends r d t h w =
      best_keep (is_read_by (readers r.task) r.period) (messages_of period r) d t
      ∙ ap (λ (x : ℕ). cond (is_read_by (readers r.task) r.period d) x 0) (all-ends period r d t h w)
      ∙ one_test (divides r.period d) (is_read_by (readers r.task) r.period d) (eqb r.task t) (suc (release_for d r))
    where
      one_test : (a b c : Bool) (x : ℕ) → cond b (cond (a && c) x 0) 0 ≡ cond ((a && b) && c) x 0
      one_test true true c x = refl
      one_test true false c x = refl
      one_test false true c x = refl
      one_test false false c x = refl

  runs_best : (rs : List Run) (d t : ℕ) → 0 < d → d ≤ period → best (read_messages readers period rs) d t ≡ latest readers rs d t
  unfolding read_messages
  runs_best [] d t h w = refl
  runs_best (r ∷ rs) d t h w =
      best_append (read_messages_of readers period r) (read_messages readers period rs) d t ∙ ap₂ max (run_ends r d t h w) (runs_best rs d t h w)

  runs-within : (n : ℕ) (rs : List Run) → all (below n) rs ≡ true → Within n period (read_messages readers period rs)
  unfolding read_messages read_messages_of
  runs-within n [] h = nothing
  runs-within n (r ∷ rs) h =
      within-append
      (within-keep (is_read_message (readers r.task) r.period) (run-within period r n (ltb-true r.task n (both_left (below n r) (all (below n) rs) h))))
      (runs-within n rs (both_right (below n r) (all (below n) rs) h))

  -- The pairs of runs of tasks below n, deadline by deadline, task by task.
  pub pairs-grid : (n : ℕ) (rs : List Run) → all (below n) rs ≡ true → pairs_of (read_messages readers period rs) ≡ grid (latest readers rs) n 1 period
  pairs-grid n rs h =
      pairs_best (runs-within n rs h)
      ∙ grid-same (best (read_messages readers period rs)) (latest readers rs) n 1 period (λ d t a b c. runs_best rs d t a (omega arith))
