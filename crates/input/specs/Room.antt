-- Room for an input: so many zeros.
use Rattle.std.specs.Prelude.{List, replicate, ℕ}

-- n zeros; it stays shut, so that no proof counts them one by one
unfoldable pub zeros : ℕ → List ℕ
zeros n = replicate n 0
