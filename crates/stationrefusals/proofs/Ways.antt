-- What the tests of refusals 40 to 44 come to, over plain variables.
use mathlib.Core.Path.{◌≡◌}
use mathlib.Core.Bool.{Bool, true, ◌&&◌}

-- behind tests that passed the last one decides
pub last_test : {a c d e c' d' e' : Bool} → a ≡ true → c ≡ c' → c ≡ true → d ≡ d' → d ≡ true → e ≡ e' → e ≡ (a && (c' && (d' && e')))
last_test ha hc tc hd td he = rw (ha, ← hc, tc, ← hd, td) he
