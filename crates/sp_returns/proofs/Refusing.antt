-- What refuses a text of items.
use Rattle.std.proofs.Common.{◌≡◌, ◌≢◌, ◌⊎◌, ℕ, List, inl, inr, refl, sym, subst}
use Rattle.sp_plan.specs.declared.plan.Plan.{Plan}
use Rattle.sp_parse.specs.declared.fault.ParseFault.{ParseFault}
use Rattle.sp_parse.specs.declared.fault.ParseFault.TheVariants as p
use Rattle.sp_parse.specs.Codes as parse_codes
use Rattle.sp_compile.specs.declared.fault.CompileFault.{CompileFault}
use Rattle.sp_compile.specs.declared.fault.CompileFault.TheVariants as f
use Rattle.sp_compile.specs.Codes as compile_codes
use Rattle.sp_returns.specs.declared.item.Return.{Return}
use Rattle.sp_returns.specs.declared.refusal.ReturnsRefusal.{ReturnsRefusal}
use Rattle.sp_returns.specs.declared.refusal.ReturnsRefusal.TheVariants.{Memory, Fault}
use Rattle.sp_returns.specs.Grammar.{IsReturnList}
use Rattle.sp_returns.specs.Parses as parses
use Rattle.sp_returns.specs.Stands.{RefusesReturns}
use Rattle.sp_returns.proofs.Returned as returned
use Rattle.sp_returns.specs.Told.{no_items, no_returns, RefusesReturned}

-- want of memory is told apart from other faults
told_apart : (fault : ParseFault) → (fault ≡ p.Memory) ⊎ (fault ≢ p.Memory)
told_apart p.Memory = inl refl
told_apart (p.Lex fault) = inr (λ e. cc)
told_apart (p.Unexpected at) = inr (λ e. cc)
told_apart (p.TooDeep at) = inr (λ e. cc)

module _ (text : List ℕ) (from into : Plan) (r : ReturnsRefusal) where
  pub parse_refused : (fault : ParseFault) → parses.Refuses text fault → (fault ≡ p.Memory → r ≡ Memory) → (fault ≢ p.Memory → r ≡ Fault (parse_codes.code_of fault) (parse_codes.place_of fault))
      → RefusesReturned text from into r
  parse_refused fault refuses memory other = elim (told_apart fault) as (λ _. RefusesReturned text from into r) [
    | inl is ↦ subst (RefusesReturned text from into) (sym (memory is)) tt
    | inr some ↦ subst (RefusesReturned text from into) (sym (other some)) (no_items fault refuses some)
  ]

  pub compile_refused : (items : List Return) → IsReturnList text items → (fault : CompileFault) → RefusesReturns items from into.schema fault → (fault ≡ f.Memory → r ≡ Memory)
      → (fault ≢ f.Memory → r ≡ Fault (compile_codes.code_of fault) (compile_codes.place_of fault)) → RefusesReturned text from into r
  compile_refused items are fault refuses memory other = elim (returned.told_apart fault) as (λ _. RefusesReturned text from into r) [
    | inl is ↦ subst (RefusesReturned text from into) (sym (memory is)) tt
    | inr some ↦ subst (RefusesReturned text from into) (sym (other some)) (no_returns items fault are refuses some)
  ]
