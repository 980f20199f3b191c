-- What refuses a query's text, and which plan it has.
use Rattle.std.proofs.Common.{◌≡◌, ◌≢◌, ℕ, List, Ok, Err, refl, sym, subst}
use Rattle.std.specs.Prelude.{Result, IfOk, IfErr}
use Rattle.std.specs.Str.{IsUtf8}
use Rattle.sp_plan.specs.declared.plan.Plan.{Plan}
use Rattle.sp_query.specs.declared.query.Query.{Query as QueryTree}
use Rattle.sp_query.specs.Queries.{IsQuery}
use Rattle.sp_parse.specs.declared.fault.ParseFault.{ParseFault}
use Rattle.sp_parse.specs.declared.fault.ParseFault.TheVariants as p
use Rattle.sp_parse.specs.Parses as parses
use Rattle.sp_parse.specs.Codes as parse_codes
use Rattle.sp_compile.specs.declared.fault.CompileFault.{CompileFault}
use Rattle.sp_compile.specs.declared.fault.CompileFault.TheVariants as f
use Rattle.sp_compile.specs.Told as told
use Rattle.sp_compile.specs.Told.{IsPlanOf}
use Rattle.sp_compile.specs.Codes as compile_codes
use Rattle.sp_load.specs.declared.refusal.Refusal.{Refusal}
use Rattle.sp_load.specs.declared.refusal.Refusal.TheVariants.{Memory, Query}
use Rattle.sp_load.specs.Queries.{IsPlanFor, no_query, no_plan, RefusesText, RefusesQuery}

module _ (text : List ℕ) (utf8 : IsUtf8 text) where
  pub parse_refused : (fault : ParseFault) (s : Refusal) → parses.Refuses text fault → (fault ≡ p.Memory → s ≡ Memory) → (fault ≢ p.Memory → s ≡ Query (parse_codes.code_of fault) (parse_codes.place_of fault)) → RefusesText text s
  parse_refused p.Memory s refuses memory other = subst (RefusesText text) (sym (memory refl)) tt
  parse_refused (p.Lex fault) s refuses memory other = subst (RefusesText text) (sym (other (λ e. cc))) (no_query (p.Lex fault) utf8 refuses (λ e. cc))
  parse_refused (p.Unexpected at) s refuses memory other = subst (RefusesText text) (sym (other (λ e. cc))) (no_query (p.Unexpected at) utf8 refuses (λ e. cc))
  parse_refused (p.TooDeep at) s refuses memory other = subst (RefusesText text) (sym (other (λ e. cc))) (no_query (p.TooDeep at) utf8 refuses (λ e. cc))

  module _ (query : QueryTree) (is : IsQuery text query) where
    fault_refused : (fault : CompileFault) (s : Refusal) → told.Refuses query fault → fault ≢ f.Memory → (fault ≢ f.Memory → s ≡ Query (compile_codes.code_of fault) (compile_codes.place_of fault)) → RefusesText text s
    fault_refused fault s refuses no_memory other = subst (RefusesText text) (sym (other no_memory)) (no_plan query fault utf8 is refuses no_memory)

    pub compile_refused : (fault : CompileFault) (s : Refusal) → told.Refuses query fault → (fault ≡ f.Memory → s ≡ Memory) → (fault ≢ f.Memory → s ≡ Query (compile_codes.code_of fault) (compile_codes.place_of fault)) → RefusesText text s
    compile_refused f.Memory s refuses memory other = subst (RefusesText text) (sym (memory refl)) tt
    compile_refused (f.Unknown span) s refuses memory other = fault_refused (f.Unknown span) s refuses (λ e. cc) other
    compile_refused (f.Twice span) s refuses memory other = fault_refused (f.Twice span) s refuses (λ e. cc) other
    compile_refused (f.WrongKind span) s refuses memory other = fault_refused (f.WrongKind span) s refuses (λ e. cc) other
    compile_refused (f.PlusLast span) s refuses memory other = fault_refused (f.PlusLast span) s refuses (λ e. cc) other
    compile_refused (f.LateReference span) s refuses memory other = fault_refused (f.LateReference span) s refuses (λ e. cc) other
    compile_refused (f.TooWide span) s refuses memory other = fault_refused (f.TooWide span) s refuses (λ e. cc) other
    compile_refused (f.BadWindow span) s refuses memory other = fault_refused (f.BadWindow span) s refuses (λ e. cc) other
    compile_refused (f.TooMany span) s refuses memory other = fault_refused (f.TooMany span) s refuses (λ e. cc) other
    compile_refused (f.NeverEnds span) s refuses memory other = fault_refused (f.NeverEnds span) s refuses (λ e. cc) other
    compile_refused (f.NeverBound span) s refuses memory other = fault_refused (f.NeverBound span) s refuses (λ e. cc) other

    pub plan_for : (r : Result Plan Refusal) → IfOk r (λ q. IsPlanOf q query) → IfOk r (IsPlanFor text)
    plan_for (Ok q) plan = record { utf8 = utf8; query = query; is_query = is; is_plan = plan }
    plan_for (Err s) plan = tt

    pub refused_for : (r : Result Plan Refusal) → IfErr r (RefusesQuery query) → IfErr r (RefusesText text)
    refused_for (Ok q) refuses = tt
    refused_for (Err s) refuses = refuses text utf8 is
