-- What a core worked, one turn after another.
use Rattle.std.proofs.Common.{◌≡◌, List, [], ◌∷◌, ◌++◌, refl, ◌∙◌, ap, append_assoc}
use Rattle.std.proofs.lemmas.Grind.{flat_map-append}
use Rattle.std.proofs.lemmas.List.{append-nil}
use Rattle.sp_plan.specs.declared.found.Match.{Match}
use Rattle.sp_core.specs.declared.emitted.Emitted.{Emitted}
use Rattle.sp_core.specs.Running.{Running}
use Rattle.sp_splitter.specs.Stages.{matches_of}
use Rattle.sp_split.specs.declared.turning.Turn.{Turn}
use Rattle.sp_split.specs.Stages.{CutOff, Turned, WorkedOff, WorkedOn, WorkedShort, given_out}
use Rattle.sp_split.specs.declared.turning.Turn.TheVariants as t
use Rattle.sp_split.proofs.Steps.{worked_more}

-- a window more
pub window_more : (xs : List Emitted) (x : Emitted) → matches_of (xs ++ x ∷ []) ≡ matches_of xs ++ x.matches.items
window_more xs x = flat_map-append (λ (e : Emitted). e.matches.items) xs (x ∷ []) ∙ ap (λ l. matches_of xs ++ l) (append-nil x.matches.items)

-- a core worked, and emitted these matches
pub record Worked (old new : Running) (ms : List Match) : Type 0 where
  pub on : WorkedOn old new
  pub emitted : new.machine.emitted ≡ old.machine.emitted ++ ms
  pub none_out : new.machine.tickets ≡ []

module _ (a b c : Running) (ms : List Match) (first : Worked a b ms) where
  -- a turn more
  pub turn_more : (turn : Turn) → Turned b c turn → Worked a c (ms ++ given_out turn)
  turn_more turn turned = record {
    on = worked_more a b c first.on turned.on;
    emitted = turned.emitted ∙ ap (λ (l : List Match). l ++ given_out turn) first.emitted ∙ append_assoc a.machine.emitted ms (given_out turn);
    none_out = turned.none_out;
  }

  -- nothing is left to do
  pub none_left : Turned b c t.Idle → WorkedOff a c ms
  none_left turned = record {
    on = worked_more a b c first.on turned.on;
    emitted = turned.emitted ∙ append-nil b.machine.emitted ∙ first.emitted;
    none_out = turned.none_out;
    all = turned.idle refl;
  }

  -- there was no memory
  pub cut_off : CutOff b c → WorkedShort a c
  cut_off cut = record { on = worked_more a b c first.on cut.on; matches = ms; emitted = cut.emitted ∙ first.emitted }

pub short_of : (a b : Running) (ms : List Match) → Worked a b ms → WorkedShort a b
short_of a b ms w = record { on = w.on; matches = ms; emitted = w.emitted }
