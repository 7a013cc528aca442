-- How bits and ticks on the bus stand in memory.
use Rattle.rules.specs.Frames as rules
use Rattle.times.specs.declared.Sending.{Sending}

unfoldable pub sending_laid : rules.Sending → Sending
sending_laid s = record { bits = record { 0 = s.bits }; ticks = record { 0 = s.ticks } }
