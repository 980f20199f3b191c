-- The parts that were gathered, and those to come.
use Rattle.std.proofs.Common.{◌≡◌, ℕ, ◌+◌, ◌-◌, ◌≤◌, Bool, List, [], ◌∷◌, ◌++◌, length, map, take, drop, refl, sym, ap, ◌∙◌, arith, length-drop, append_assoc}
use Rattle.std.proofs.lemmas.List.{append-nil, drop_all, length-take-le, map-append}
use Rattle.sp_plan.specs.declared.event.Event.{Event}
use Rattle.sp_plan.specs.declared.plan.Plan.{Plan}
use Rattle.sp_plan.specs.Windows.{Window, windows}
use Rattle.sp_parts.specs.declared.part.Part as kept
use Rattle.sp_parts.specs.Parts.{Part, grouped, part_of, parts_from, parts_of}
use Rattle.sp_parts.specs.Seen.{seen}
use Rattle.sp_parts.specs.Stretches.{IsStretch}

-- the windows up to a place have given these parts
pub record Gathered (q : Plan) (events : List Event) (ended : Bool) (parts : List kept.Part) (begin : ℕ) : Type 0 where
  pub within : begin ≤ length (windows q events ended)
  pub all : parts_of q events ended ≡ map seen parts ++ parts_from events begin (grouped (drop begin (windows q events ended)))

module _ (q : Plan) (events : List Event) (ended : Bool) where
  abbrev ws : List Window
  ws = windows q events ended

  -- none yet
  pub gathered_none : Gathered q events ended [] 0
  gathered_none = record { within = omega arith; all = refl }

  -- one more
  pub gathered_more : (parts : List kept.Part) (begin end : ℕ) (part : kept.Part) → Gathered q events ended parts begin → IsStretch ws begin end → seen part ≡ part_of events begin (take (end - begin) (drop begin ws)) → Gathered q events ended (parts ++ part ∷ []) end
  gathered_more parts begin end part so_far stretch is =
      let some = stretch.some in
      let within = stretch.within in
      let own = take (end - begin) (drop begin ws) in
      let size : begin + length own ≡ end = let long = length-drop begin ws in let count = length-take-le (end - begin) (drop begin ws) (omega arith) in omega arith in
      let later = parts_from events end (grouped (drop end ws)) in
      record {
        within = stretch.within;
        all = so_far.all ∙ ap (λ (l : List (List Window)). map seen parts ++ parts_from events begin l) stretch.group
            ∙ ap (λ (n : ℕ). map seen parts ++ part_of events begin own ∷ parts_from events n (grouped (drop end ws))) size
            ∙ ap (λ (p : Part). map seen parts ++ p ∷ later) (sym is) ∙ sym (append_assoc (map seen parts) (seen part ∷ []) later)
            ∙ ap (λ (l : List Part). l ++ later) (sym (map-append seen parts (part ∷ [])));
      }

  -- all of them
  pub gathered_all : (parts : List kept.Part) (begin : ℕ) → Gathered q events ended parts begin → length ws ≤ begin → map seen parts ≡ parts_of q events ended
  gathered_all parts begin so_far past =
      sym (so_far.all ∙ ap (λ (l : List Window). map seen parts ++ parts_from events begin (grouped l)) (drop_all begin ws past) ∙ append-nil (map seen parts))
