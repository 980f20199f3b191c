-- What is known of one event more.
use Rattle.std.proofs.Common.{ℕ, ◌<◌, List, [], ◌∷◌, ◌++◌, length, get_or, sym, subst, inl, inr, arith}
use Rattle.std.proofs.lemmas.Bool.{cases_eq}
use Rattle.std.proofs.lemmas.List.{get_or_at, get_or_append_left, length_push}
use Rattle.sp_plan.specs.declared.event.Event.{Event}
use Rattle.sp_plan.specs.declared.plan.Plan.{Plan}
use Rattle.sp_match.specs.declared.known.Known.{Known}
use Rattle.sp_match.specs.public.Known.{IsKnown}
use Rattle.sp_seq.specs.Learned.{AllKnown}

pub known_more : (q : Plan) (events : List Event) (known : List Known) (one : Known) → AllKnown q events known → ((e : Event) → IsKnown q (get_or events (length known) e) one) → AllKnown q events (known ++ one ∷ [])
known_more q events known one all so i e k inside within =
    elim (cases_eq i (length known)) [
      | inl same ↦ subst (IsKnown q (get_or events i e)) (sym (get_or_at known one [] k i (sym same))) (subst (λ (n : ℕ). IsKnown q (get_or events n e) one) (sym same) (so e))
      | inr other ↦
          let front : i < length known = omega (arith, length_push known one, other) in
          subst (IsKnown q (get_or events i e)) (sym (get_or_append_left known (one ∷ []) k i front)) (all i e k inside front)
    ]
