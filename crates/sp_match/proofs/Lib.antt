-- The page of contents. The folder of a function's name has the answers to its goals; what serves several functions, and
-- the laws, stand in the files below, each named by what it shows.

-- The laws of runs and moves, as callers see them.
pub mod MovesAreHandling
pub mod ClosingEndsRuns
pub mod NumbersStayBelow
pub mod RunsAreSound
pub mod MovesLeadOn
pub mod SeveralAreLawful
pub mod CompletionsAreMatches
pub mod AbandonmentsAreTold
-- What these laws stand on: the runs and moves of the definitions.
pub mod RunNumbersRise
pub mod RunInTheMiddle
pub mod GrowingMoves
pub mod MovesFollowRuns
pub mod MovesNameOpenRuns
pub mod GroupsGrow
-- A run in plain values: its pairs, what it keeps, and the way back.
pub mod PairsOfRuns
pub mod NamesAreCounted
pub mod GrownRunIsGood
pub mod RunsUndo
pub mod RunsUnderAlike
-- Which name a run takes an event under.
pub mod Searches
pub mod ElementsAreNamed
pub mod TakenIsNamed
pub mod NeverTaken
pub mod GuardsAreNumbered
pub mod AheadIsTaken
pub mod AheadStays
pub mod BeginningIsTaken
pub mod TakersTell
pub mod RunsAreHeld
pub mod RunsGoOn
pub mod RunsFollow
pub mod NumbersAreAbove
-- What is told of runs.
pub mod MovesAreTold
pub mod NumbersGathered
pub mod NegatedAreLeftOut
-- One run's turn, against the definitions.
pub mod OpenRuns
pub mod RunNumbersStay
pub mod RunsAfterUse
pub mod RunsAfterBinding
pub mod TurnShows
pub mod RunsTally
pub mod TurnTallies
pub mod TurnGoesOn
-- All turns, the start of a run, and the handling of an event as a whole.
pub mod AllTurnsGoOn
pub mod QuietTurns
pub mod NothingIsDone
pub mod StartShows
pub mod EventIsHandled
pub mod MatcherAfterEvent
pub mod EventIsOffered
-- What the runs want of later events.
pub mod WantedIsTold
pub mod WantsStay
