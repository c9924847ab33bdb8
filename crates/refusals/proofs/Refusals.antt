-- No refusal has the number 0, which stands for acceptance, and none has 24: case by case.
use native.Mathlib.Omega.{arith}
use mathlib.Core.Path.{◌≡◌}
use Rattle.refusals.specs.Refusal.{refusal_number}
use Rattle.refusals.specs.declared.refusal.Refusal.{Refusal}
use Rattle.refusals.specs.declared.refusal.Refusal.TheVariants.{NotOpen, DayNotLater, Drawing, UnknownKind, GamesOutOfRange, GroupsOutOfRange, UnfitMarks, UnfitTypes, UnfitWaySize, SingleSpecialOne, UnfitStake, ChargeOverLimit, LiveLimit, SaleLimit, NeverIssued, TicketClosed, SoldEarlier, KenoToGoBegun, NoGameToTakeOff, NotFinished, BallOutOfRange, GameLimit, BallAlreadyIn, UnknownJackpot, UnfitCents, BufferTooShort, UnfitFeature, UnfitFeatureStake, Finished, NothingDueYet, TicketLimit}

-- none is 0, and none is 24, which stood for a refusal that is gone and is not used again
pub refusal_listed : (refusal : Refusal) → (refusal_number refusal ≡ 0 → ⊥) × (refusal_number refusal ≡ 24 → ⊥)
refusal_listed NotOpen = omega arith
refusal_listed DayNotLater = omega arith
refusal_listed Drawing = omega arith
refusal_listed UnknownKind = omega arith
refusal_listed GamesOutOfRange = omega arith
refusal_listed GroupsOutOfRange = omega arith
refusal_listed UnfitMarks = omega arith
refusal_listed UnfitTypes = omega arith
refusal_listed UnfitWaySize = omega arith
refusal_listed SingleSpecialOne = omega arith
refusal_listed UnfitStake = omega arith
refusal_listed ChargeOverLimit = omega arith
refusal_listed LiveLimit = omega arith
refusal_listed SaleLimit = omega arith
refusal_listed NeverIssued = omega arith
refusal_listed TicketClosed = omega arith
refusal_listed SoldEarlier = omega arith
refusal_listed KenoToGoBegun = omega arith
refusal_listed NoGameToTakeOff = omega arith
refusal_listed NotFinished = omega arith
refusal_listed BallOutOfRange = omega arith
refusal_listed GameLimit = omega arith
refusal_listed BallAlreadyIn = omega arith
refusal_listed UnknownJackpot = omega arith
refusal_listed UnfitCents = omega arith
refusal_listed BufferTooShort = omega arith
refusal_listed UnfitFeature = omega arith
refusal_listed UnfitFeatureStake = omega arith
refusal_listed Finished = omega arith
refusal_listed NothingDueYet = omega arith
refusal_listed TicketLimit = omega arith

pub refusal_some : (refusal : Refusal) → refusal_number refusal ≡ 0 → ⊥
refusal_some refusal = (refusal_listed refusal).0

pub refusal_not_24 : (refusal : Refusal) → refusal_number refusal ≡ 24 → ⊥
refusal_not_24 refusal = (refusal_listed refusal).1
