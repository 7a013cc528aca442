-- The next deadline that is read: by one reader with roundings alone, the least of all one after the other, and how far ahead it is.
use mathlib.Core.Path.{◌≡◌, sym, ap, ◌∙◌}
use mathlib.Core.List.{List, map}
use native.Mathlib.Nat.{le_trans, le_of_dvd, mod-eq-zero_of_dvd, dvd-add, dvd_refl}
use native.Mathlib.Omega.{arith}
use lib.ListN.{get_or, length, length-map}
use Prim.Native.Nat.{ℕ, ◌+◌, ◌-◌, ◌*◌, ◌%◌, ◌≤◌, ◌<◌, ◌∣◌, min}
use Rattle.laws.specs.Numbers.{up, down, least}
use Rattle.laws.proofs.Lists.{length-tab, map-tab}
use Rattle.laws.proofs.Laid.{tab-same}
use Rattle.laws.proofs.Members.{all_weaker, all_map, all_member, member_tab}
use Rattle.laws.proofs.Divisors.{down-below}
use Rattle.laws.proofs.Readers.{up_least, first-reached, least-has, IsLeast, least_first, least_more, least_of_more, least-is}
use Rattle.rules.specs.Limits.{longest_time, most_invocations}
use Rattle.rules.specs.Direct.{multiple_after, read_after}
use Rattle.rules.proofs.ReadersGo.{ReadersGo}
use Rattle.bus.specs.Readers.{reader_at, readers_seen}
use Rattle.frames.specs.Walk.{Readable}

-- ---- what is asked of readers

pub readable : {cycle : ℕ} {us : List ℕ} → 0 < cycle → cycle ≤ longest_time → ReadersGo cycle us → Readable us
readable p s g =
    record { some = g.some; few = g.few; each = all_weaker (λ u h. (h.0, le_trans (le_of_dvd p h.1) s)) g.each }

-- a reader comes again by the end of the next cycle
pub read-within : (cycle period d : ℕ) {us : List ℕ} → ReadersGo cycle us → period ≤ cycle → d ≤ cycle → least (map (read_after period d) us) ≤ 2 * cycle
unfolding read_after multiple_after
read-within cycle period d {us} g h l =
    least-has {P = λ x. x ≤ 2 * cycle} (rw (length-map us (read_after period d)) g.some) (all_map (read_after period d) (all_weaker each g.each))
  where
    each : (u : ℕ) → (0 < u) × (u ∣ cycle) → read_after period d u ≤ 2 * cycle
    each u k =
        let two : 2 * cycle ≡ cycle + cycle = omega arith in
        le_trans (down-below period (up u (d - d % period + period)))
        (up_least u (d - d % period + period) (2 * cycle) (rw two (dvd-add u k.1 k.1)) (omega arith))

-- ---- reader after reader

module _ (counts periods : List ℕ) (t : ℕ) where
  count_fits : Readable (readers_seen counts periods t) → (0 < get_or counts t 0) × (get_or counts t 0 ≤ most_invocations)
  unfolding readers_seen
  count_fits r =
      let e : length (readers_seen counts periods t) ≡ get_or counts t 0 = length-tab (reader_at periods t) 0 (get_or counts t 0) in
      (omega (arith, r.some), omega (arith, r.few))

  pub reader_fits : Readable (readers_seen counts periods t) → (k : ℕ) → k < get_or counts t 0
      → (0 < get_or periods (t * most_invocations + k) 0) × (get_or periods (t * most_invocations + k) 0 ≤ longest_time)
  unfolding readers_seen reader_at
  reader_fits r k h = all_member r.each (member_tab (reader_at periods t) 0 (get_or counts t 0) k (omega arith) (omega arith))

  pub first_fits : Readable (readers_seen counts periods t) → (0 < get_or periods (t * most_invocations) 0) × (get_or periods (t * most_invocations) 0 ≤ longest_time)
  first_fits r =
      let z : t * most_invocations + 0 ≡ t * most_invocations = omega arith in
      rw z at (reader_fits r 0 (count_fits r).0)

  module _ (period first : ℕ) where
    -- the first deadline not before `first` by the k-th reader
    abbrev by_reader : ℕ → ℕ
    by_reader k = down period (up (get_or periods (t * most_invocations + k) 0) first)

    -- the readers in front of the i-th are looked at
    pub record Looked (i next : ℕ) : Type 0 where
      pub few : get_or counts t 0 ≤ most_invocations
      pub within : i ≤ get_or counts t 0
      pub so_far : IsLeast by_reader i next

    pub look_first : {x : ℕ} → Readable (readers_seen counts periods t) → x ≡ down period (up (get_or periods (t * most_invocations) 0) first) → Looked 1 x
    look_first {x} r e =
        let z : t * most_invocations + 0 ≡ t * most_invocations = omega arith in
        record { few = (count_fits r).1; within = (count_fits r).0; so_far = least_first by_reader (rw z e) }

    pub look_more : {i next x y : ℕ} → Looked i next → i < get_or counts t 0 → x ≡ by_reader i → y ≡ min next x → Looked (i + 1) y
    look_more l h e is = record { few = l.few; within = omega arith; so_far = rw (is, e) (least_more by_reader l.so_far) }

  module _ (period d : ℕ) (m : period ∣ d) where
    -- behind one of the run's ends comes the next one, a period later
    read_is : (k : ℕ) → read_after period d (reader_at periods t k) ≡ by_reader period (d + period) k
    unfolding read_after multiple_after reader_at
    read_is k =
        let z : d % period ≡ 0 = mod-eq-zero_of_dvd period m in
        let n : d - d % period + period ≡ d + period = omega arith in
        rw n

    pub looked-all : {i next : ℕ} → Looked period (d + period) i next → get_or counts t 0 ≤ i → next ≡ least (map (read_after period d) (readers_seen counts periods t))
    unfolding readers_seen
    looked-all {i} {next} l h =
        let e : i ≡ get_or counts t 0 = omega (arith, l.within) in
        sym (ap least (map-tab (reader_at periods t) (read_after period d) 0 (get_or counts t 0) ∙ tab-same _ _ 0 (get_or counts t 0) (λ k a b. read_is k)) ∙ least-is (by_reader period (d + period)) (rw e at l.so_far))

    -- none is before the next end of the run
    pub looked-enough : {i next : ℕ} → 0 < period → Readable (readers_seen counts periods t) → Looked period (d + period) i next → next ≡ d + period
        → next ≡ least (map (read_after period d) (readers_seen counts periods t))
    looked-enough {i} {next} p r l e =
        looked-all (record { few = l.few; within = omega arith; so_far = least_of_more (by_reader period (d + period)) l.so_far l.within not-before }) (omega arith)
      where
        not-before : (k : ℕ) → k < get_or counts t 0 → next ≤ by_reader period (d + period) k
        not-before k h =
            rw e
            (first-reached period (get_or periods (t * most_invocations + k) 0) (d + period) p (reader_fits r k h).0 (dvd-add period m (dvd_refl period)))
