-- "Refused by number": the number of each refusal, from the table of where each thing is checked. 24 stood for a claim of a ticket with nothing due, which no list
-- of commands leads to (house/proofs/FinishedDue.antt): "The number isn't used again."
use Rattle.std.specs.Prelude.{ℕ, Result, Ok, Err}
use Rattle.refusals.specs.declared.refusal.Refusal.{Refusal}
use Rattle.refusals.specs.declared.refusal.Refusal.TheVariants.{NotOpen, DayNotLater, Drawing, UnknownKind, GamesOutOfRange, GroupsOutOfRange, UnfitMarks, UnfitTypes, UnfitWaySize, SingleSpecialOne, UnfitStake, ChargeOverLimit, LiveLimit, SaleLimit, NeverIssued, TicketClosed, SoldEarlier, KenoToGoBegun, NoGameToTakeOff, NotFinished, BallOutOfRange, GameLimit, BallAlreadyIn, UnknownJackpot, UnfitCents, BufferTooShort, UnfitFeature, UnfitFeatureStake, Finished, NothingDueYet, TicketLimit}

abbrev pub refusal_number : Refusal → ℕ
refusal_number NotOpen = 4
refusal_number DayNotLater = 5
refusal_number Drawing = 6
refusal_number UnknownKind = 7
refusal_number GamesOutOfRange = 8
refusal_number GroupsOutOfRange = 9
refusal_number UnfitMarks = 10
refusal_number UnfitTypes = 11
refusal_number UnfitWaySize = 12
refusal_number SingleSpecialOne = 13
refusal_number UnfitStake = 14
refusal_number ChargeOverLimit = 15
refusal_number LiveLimit = 16
refusal_number SaleLimit = 17
refusal_number NeverIssued = 18
refusal_number TicketClosed = 19
refusal_number SoldEarlier = 20
refusal_number KenoToGoBegun = 21
refusal_number NoGameToTakeOff = 22
refusal_number NotFinished = 23
refusal_number BallOutOfRange = 25
refusal_number GameLimit = 26
refusal_number BallAlreadyIn = 27
refusal_number UnknownJackpot = 28
refusal_number UnfitCents = 29
refusal_number BufferTooShort = 30
refusal_number UnfitFeature = 31
refusal_number UnfitFeatureStake = 32
refusal_number Finished = 33
refusal_number NothingDueYet = 34
refusal_number TicketLimit = 35

-- the number that tells how something ended: 0 where it was accepted, and else the refusal's
abbrev pub code_in : {A : Type 0} → Result A Refusal → ℕ
code_in (Ok _) = 0
code_in (Err refusal) = refusal_number refusal
