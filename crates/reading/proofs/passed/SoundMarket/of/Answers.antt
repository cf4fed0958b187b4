-- `reading::passed::SoundMarket::of` meets its contract.
use mathlib.Core.Path.{subst, sym}
use Rattle.reading.specs.InnerContracts.{Sound}
use Rattle.reading.proofs.Sound.{sound}
use Rattle.reading.proofs.passed.SoundMarket.of.Goals as goal

pub invariant_of-result : goal.invariant_of-result
invariant_of-result c = record { sound = subst Sound (sym c.of.ensures) (sound _ c.requires) }
