-- The measure is x, which falls to x / 10; the last digit goes behind the digits of that (`put_digit`), and 0 has none.
use Rattle.text.proofs.+put_digits.Given as goal

abbrev pub decreases-put_digits : goal.decreases-put_digits
decreases-put_digits l = l.x
