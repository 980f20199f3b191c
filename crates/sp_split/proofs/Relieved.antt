-- One predictor after another goes to work.
use Rattle.std.proofs.Common.{◌≡◌, ◌⊎◌, inl, inr, ℕ, zero, suc, ◌+◌, ◌≤◌, List, [], ◌∷◌, Some, drop, length, length-drop, map, refl, sym, ◌∙◌, ap, subst, arith}
use Rattle.std.specs.Prelude.{Ok, Err, IfOk, OnOk}
use Rattle.std.specs.declared.result.Result.{Result}
use Rattle.std.proofs.Math.Seq.{drop-nil}
use Rattle.std.proofs.lemmas.List.{length-map}
use Rattle.sp_ports.specs.declared.stop.Stop.{Stop}
use Rattle.sp_split.specs.declared.crew.Crew.{Crew}
use Rattle.sp_split.specs.declared.ended.Went.{Went}
use Rattle.sp_split.specs.declared.ended.Why.{Why}
use Rattle.sp_split.specs.declared.ended.Why.TheVariants as why
use Rattle.sp_split.specs.declared.relay.Team.{Team}
use Rattle.sp_split.specs.Relay.{due, due_of, Relayed}
use Rattle.sp_split.specs.Relieving.{AreDue, Relieved, crew_of, team_of}
use Rattle.sp_split.specs.Stopping.{IsThrough}

drop_drop : {X : Type 0} (m n : ℕ) (l : List X) → drop n (drop m l) ≡ drop (m + n) l
drop_drop zero n l = let same : 0 + n ≡ n = omega arith in ap (λ (k : ℕ). drop k l) (sym same)
drop_drop (suc m) n [] = drop-nil n ∙ sym (drop-nil (suc m + n))
drop_drop (suc m) n (x ∷ l) = let same : suc m + n ≡ suc (m + n) = omega arith in drop_drop m n l ∙ ap (λ (k : ℕ). drop k (x ∷ l)) (sym same)

-- where something is left, no more are gone than stood behind the first
few_gone : {X : Type 0} (n : ℕ) (x y : X) (xs ys : List X) → x ∷ xs ≡ drop n (y ∷ ys) → n ≤ length ys
few_gone zero x y xs ys same = omega arith
few_gone (suc n) x y xs ys same = let count = ap length same in let left = length-drop n ys in omega arith

-- a run that came to its end, or to a stop
through : (reason : Why) → (reason ≡ why.Whole) ⊎ ((cause : Stop) × (reason ≡ why.Stopped cause)) → IsThrough (Some reason)
through reason (inl is) = subst (λ (w : Why). IsThrough (Some w)) (sym is) tt
through reason (inr is) = subst (λ (w : Why). IsThrough (Some w)) (sym is.1) tt

module _ {V : Type 0} {T : V → Type 0} where
  -- of which none has gone
  pub team_first : (a : Team V T) → a.relay.gone ≡ 0 → a ≡ team_of (crew_of a)
  team_first a none = ap (λ (n : ℕ). record a { relay = record a.relay { gone = n } }) none

  module _ (named : _ → List ℕ) where
    -- none has
    pub relieved_none : (a : Team V T) → Relieved named a a
    relieved_none a = record { count = 0; gone = omega arith; rest = refl; names = refl; every = refl }

    -- some have, and then some more
    pub relieved_then : (a b c : Team V T) → Relieved named a b → Relieved named b c → Relieved named a c
    relieved_then a b c first then = record {
      count = first.count + then.count;
      gone = omega (arith, first.gone, then.gone);
      rest = then.rest ∙ ap (drop then.count) first.rest ∙ drop_drop first.count then.count a.relay.rest.items;
      names = then.names ∙ ap (drop then.count) first.names ∙ drop_drop first.count then.count (map named (a.first ∷ a.relay.rest.items));
      every = then.every ∙ first.every;
    }

    -- the next one has
    pub relieved_next : (a b : Team V T) (next : _) → b.first ≡ next → a.relay.rest.items ≡ next ∷ b.relay.rest.items → b.relay.gone ≡ a.relay.gone + 1 → b.relay.every ≡ a.relay.every
        → Relieved named a b
    relieved_next a b next same first gone every = record {
      count = 1;
      gone = gone;
      rest = ap (drop 1) (sym first);
      names = ap (λ one. named one ∷ map named b.relay.rest.items) same ∙ ap (map named) (sym first);
      every = every;
    }

    -- none has, and the one in work may have learned
    pub relieved_learned : (a b : Team V T) → named b.first ≡ named a.first → b.relay ≡ a.relay → Relieved named a b
    relieved_learned a b name same = record {
      count = 0;
      gone = let as_before = ap (λ r. r.gone) same in omega arith;
      rest = ap (λ r. r.rest.items) same;
      names = ap (λ n. n ∷ map named b.relay.rest.items) name ∙ ap (λ r. named a.first ∷ map named r.rest.items) same;
      every = ap (λ r. r.every) same;
    }

    -- what a run leaves of its crew
    pub relayed : (before after : Crew V T) (a b : Team V T) (reason : Why) (finished : ℕ) → a ≡ team_of before → after ≡ crew_of b → Relieved named a b
        → (IsThrough (Some reason) → AreDue b.relay finished) → Relayed named before after reason finished
    relayed before after a b reason finished start end relieved is_due = rw end (record {
      gone = relieved.count;
      rest = relieved.rest ∙ ap (λ l. drop relieved.count l.relay.rest.items) start;
      names = relieved.names ∙ ap (λ l. drop relieved.count (map named (l.first ∷ l.relay.rest.items))) start;
      every = relieved.every ∙ ap (λ l. l.relay.every) start;
      count = λ over. count (is_due (through reason over));
    })
      where
        few : relieved.count ≤ length a.relay.rest.items
        few =
            let names = few_gone relieved.count (named b.first) (named a.first) (map named b.relay.rest.items) (map named a.relay.rest.items) relieved.names in
            let same = length-map a.relay.rest.items named in
            omega arith

        gone : b.relay.gone ≡ relieved.count
        gone = let none = ap (λ l. l.relay.gone) start in let more = relieved.gone in omega arith

        others : b.relay.gone + length b.relay.rest.items ≡ length before.rest.items
        others =
            let left = ap length relieved.rest in
            let cut = length-drop relieved.count a.relay.rest.items in
            let first = ap (λ l. length l.relay.rest.items) start in
            omega (arith, few, gone)

        every : b.relay.every ≡ before.every
        every = relieved.every ∙ ap (λ l. l.relay.every) start

        count : AreDue b.relay finished → relieved.count ≡ due before finished
        count is = sym gone ∙ is ∙ ap (λ (e : ℕ). due_of e (b.relay.gone + length b.relay.rest.items) finished) every ∙ ap (λ (n : ℕ). due_of before.every n finished) others

    -- and what it leaves, where it ended so
    pub relayed_end : {E : Type 0} (a b : Team V T) (after : Crew V T) (end : Result Went E) → a.relay.gone ≡ 0 → after ≡ crew_of b → OnOk end (Relieved named a b)
        → IfOk end (λ w. IsThrough (Some w.why) → AreDue b.relay w.core.machine.finished) → IfOk end (λ w. Relayed named (crew_of a) after w.why w.core.machine.finished)
    relayed_end a b after (Ok w) none same relieved is_due = relayed (crew_of a) after a b w.why w.core.machine.finished (team_first a none) same relieved is_due
    relayed_end a b after (Err e) none same relieved is_due = tt
