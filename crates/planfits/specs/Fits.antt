-- Refusal 5's tests over what the code has at hand: a mode and a task instead of their numbers.
use Rattle.std.specs.Prelude.{Bool, ◌&&◌, leb, eqb, ℕ, ◌/◌}
use Rattle.laws.specs.Numbers as numbers
use Rattle.rules.specs.Plan.{Mode, Task}

-- Refusal 5, of an invocation with its rate, its mode and its task: the rate divides the mode's period, the period that this makes
-- divides the switch period, the worst time is not above it, and task and mode are of one module.
unfoldable pub fits_these : ℕ → Mode → Task → Bool
fits_these rate μ t =
    (numbers.divides rate μ.period && numbers.divides (μ.period / rate) μ.switch)
    && (leb t.worst (μ.period / rate) && eqb t.home μ.home)
