-- Events that come out of a list one by one, the last one first.
use Rattle.std.proofs.Common.{◌≡◌, List, [], ◌∷◌, ◌++◌, Bool, true, false, map, refl, sym, ap, subst, ◌∙◌, append_assoc, if◌then◌else◌}
use Rattle.std.specs.Prelude.{reverse}
use Rattle.std.proofs.lemmas.List.{append-nil, reverse-append}
use Rattle.sp_plan.specs.declared.event.Event.{Event}
use Rattle.sp_plan.specs.declared.pairs.Pair.{Pair}
use Rattle.sp_plan.specs.Blocks.{seen}
use Rattle.sp_plan.specs.Released.{AreSome, AreReleased, events_of}
use Rattle.sp_plan.specs.Released.AreSome.{none, taken, left}

pub events_seen : (pairs : List Pair) → events_of (map seen pairs) ≡ map (λ (p : Pair). p.event) pairs
events_seen [] = refl
events_seen (p ∷ pairs) = ap (λ (l : List Event). p.event ∷ l) (events_seen pairs)

none_of : (all : List Event) → AreSome [] all
none_of [] = none
none_of (e ∷ all) = left e [] all (none_of all)

-- the same of more events, of which none is taken
left_behind : (some all more : List Event) → AreSome some all → AreSome some (all ++ more)
left_behind _ _ more none = none_of more
left_behind _ _ more (taken e some all h) = taken e some (all ++ more) (left_behind some all more h)
left_behind _ _ more (left e some all h) = left e some (all ++ more) (left_behind some all more h)

-- of one event more, which is taken
taken_behind : (some all : List Event) (e : Event) → AreSome some all → AreSome (some ++ e ∷ []) (all ++ e ∷ [])
taken_behind _ _ e none = taken e [] [] none
taken_behind _ _ e (taken x some all h) = taken x (some ++ e ∷ []) (all ++ e ∷ []) (taken_behind some all e h)
taken_behind _ _ e (left x some all h) = left x (some ++ e ∷ []) (all ++ e ∷ []) (taken_behind some all e h)

-- the list where one event more is gone, which came to it or didn't
one_gone : (gone old now new : List Event) (e : Event) (comes : Bool) → AreReleased gone old now → new ≡ (if comes then now ++ e ∷ [] else now) → AreReleased (e ∷ gone) old new
one_gone gone old now new e true h is = record {
  some = h.some ++ e ∷ [];
  behind = is ∙ ap (λ (l : List Event). l ++ e ∷ []) h.behind ∙ append_assoc old h.some (e ∷ []);
  released = subst (AreSome (h.some ++ e ∷ [])) (sym (reverse-append (e ∷ []) gone)) (taken_behind h.some (reverse gone) e h.released);
}
one_gone gone old now new e false h is = record {
  some = h.some;
  behind = is ∙ h.behind;
  released = subst (AreSome h.some) (sym (reverse-append (e ∷ []) gone)) (left_behind h.some (reverse gone) (e ∷ []) h.released);
}

-- Of these events some are left, and the others are gone.
pub record SoFar (events kept old now : List Event) : Type 0 where
  pub gone : List Event
  pub parts : events ≡ kept ++ gone
  pub released : AreReleased gone old now

pub none_gone : (events old : List Event) → SoFar events events old old
none_gone events old = record {
  gone = [];
  parts = sym (append-nil events);
  released = record { some = []; behind = sym (append-nil old); released = none };
}

pub one_less : (events kept less old now new : List Event) (e : Event) (comes : Bool) → SoFar events kept old now → kept ≡ less ++ e ∷ []
    → new ≡ (if comes then now ++ e ∷ [] else now) → SoFar events less old new
one_less events kept less old now new e comes h last is = record {
  gone = e ∷ h.gone;
  parts = h.parts ∙ ap (λ (l : List Event). l ++ h.gone) last ∙ append_assoc less (e ∷ []) h.gone;
  released = one_gone h.gone old now new e comes h.released is;
}

pub all_gone : (front events old now : List Event) → SoFar events [] old now → AreReleased (front ++ events) old now
all_gone front events old now h = record {
  some = h.released.some;
  behind = h.released.behind;
  released = subst (AreSome h.released.some) (sym (reverse-append front events ∙ ap (λ (l : List Event). reverse l ++ reverse front) h.parts))
      (left_behind h.released.some (reverse h.gone) (reverse front) h.released.released);
}
