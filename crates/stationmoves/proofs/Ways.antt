-- What the steps of a tick come to, over plain variables.
use mathlib.Core.Path.{◌≡◌, refl}
use mathlib.Core.List.{List}
use mathlib.Core.Option.{Option, none, some}
use Rattle.std.specs.Prelude as code
use lib.ListN.{get_or}
use Prim.Native.Nat.{ℕ}
use Rattle.laws.specs.Loops.{stores}
use Rattle.laws.proofs.Stores.{stores_same}
use Rattle.stationbus.specs.Bus.{mode_byte_rule, full_rule, load_rule}
use Rattle.units.specs.declared.Ticks.{Ticks}
use Rattle.stationrefusals.specs.declared.Play.{Play}
use Rattle.stationmoves.specs.declared.Advanced.{Advanced}
use Rattle.stationmoves.specs.declared.StartedRow.{StartedRow}

-- what a tick changes beside the nodes
pub play_made : {t t' : Ticks} {run run' ages ages' bytes bytes' givens givens' out out' held held' full full' loads loads' : List ℕ}
    → t ≡ t' → run ≡ run' → ages ≡ ages' → bytes ≡ bytes' → givens ≡ givens' → out ≡ out' → held ≡ held' → full ≡ full' → loads ≡ loads'
    → ◌≡◌ {A = Play}
    (record { clock = t; running = run; ages = ages; bytes = bytes; givens = givens; out = out; held = held; full = full; loads = loads })
    (record { clock = t'; running = run'; ages = ages'; bytes = bytes'; givens = givens'; out = out'; held = held'; full = full'; loads = loads' })
play_made h1 h2 h3 h4 h5 h6 h7 h8 h9 = rw (h1, h2, h3, h4, h5, h6, h7, h8, h9)

-- the mode bytes and the data frame take the modes and the out-boxes after the tick
module _ (f g : ℕ → ℕ) (same : (k : ℕ) → f k ≡ g k) where
  byte-same : (sends nodes control_nodes bytes : List ℕ) (o : Option ℕ) (m : ℕ)
      → mode_byte_rule sends nodes f control_nodes bytes o m ≡ mode_byte_rule sends nodes g control_nodes bytes o m
  byte-same sends nodes control_nodes bytes none m = refl
  byte-same sends nodes control_nodes bytes (some r) m = rw (same m)

  pub bytes_same : (sends nodes control_nodes bytes : List ℕ) (o : Option ℕ)
      → stores bytes (mode_byte_rule sends nodes f control_nodes bytes o) 16 ≡ stores bytes (mode_byte_rule sends nodes g control_nodes bytes o) 16
  bytes_same sends nodes control_nodes bytes o =
      stores_same bytes (mode_byte_rule sends nodes f control_nodes bytes o) (mode_byte_rule sends nodes g control_nodes bytes o) 16
      (λ m w. byte-same sends nodes control_nodes bytes o m)

  module _ (pair_tasks pair_starts : List ℕ) (pairs time : ℕ) (o : Option ℕ) where
    full_at : (pair_modes homes full : List ℕ) (o : Option ℕ) (t : ℕ)
        → full_rule pair_tasks pair_starts pair_modes pairs time homes f full o t ≡ full_rule pair_tasks pair_starts pair_modes pairs time homes g full o t
    full_at pair_modes homes full none t = refl
    full_at pair_modes homes full (some q) t = rw (same (get_or homes t 0))

    pub full-same : (pair_modes homes full : List ℕ)
        → stores full (full_rule pair_tasks pair_starts pair_modes pairs time homes f full o) 32
        ≡ stores full (full_rule pair_tasks pair_starts pair_modes pairs time homes g full o) 32
    full-same pair_modes homes full =
        stores_same full (full_rule pair_tasks pair_starts pair_modes pairs time homes f full o)
        (full_rule pair_tasks pair_starts pair_modes pairs time homes g full o) 32 (λ t w. full_at pair_modes homes full o t)

    load_at : (loads : List ℕ) (o : Option ℕ) (t : ℕ)
        → load_rule pair_tasks pair_starts pairs time f loads o t ≡ load_rule pair_tasks pair_starts pairs time g loads o t
    load_at loads none t = refl
    load_at loads (some q) t = rw (same t)

    pub loads-same : (loads : List ℕ)
        → stores loads (load_rule pair_tasks pair_starts pairs time f loads o) 32 ≡ stores loads (load_rule pair_tasks pair_starts pairs time g loads o) 32
    loads-same loads =
        stores_same loads (load_rule pair_tasks pair_starts pairs time f loads o) (load_rule pair_tasks pair_starts pairs time g loads o) 32
        (λ t w. load_at loads o t)

-- the rows that start decide both parts
pub advanced_made : {n n' : ℕ} {a a' b b' : Option ℕ} {s : code.Option StartedRow} {p : Play} (S : Option ℕ → Option ℕ → code.Option StartedRow) (P : ℕ → Option ℕ → Option ℕ → Play)
    → n ≡ n' → a ≡ a' → b ≡ b' → s ≡ S a b → p ≡ P n a b
    → ◌≡◌ {A = Advanced} (record { row = s; play = p }) (record { row = S a' b'; play = P n' a' b' })
advanced_made S P h0 h1 h2 h3 h4 = rw (h3, h4, h0, h1, h2)
