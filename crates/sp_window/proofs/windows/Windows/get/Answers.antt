use Rattle.std.proofs.Common.{◌≡◌, ◌-◌, ◌∙◌, ap, subst, sym, Some, None, rules}
use Rattle.std.specs.Prelude.{slice_get}
use Rattle.std.specs.Option.{option_map}
use Rattle.std.proofs.lemmas.Option.{gets}
use Rattle.sp_plan.specs.WindowNumbers.{numbered_window}
use Rattle.sp_window.specs.Keeping.{kept_of}
use Rattle.sp_window.specs.Standing.{Kept, Stands, shown}
use Rattle.sp_window.proofs.Keeps.{shown_record, gets_window}
use Rattle.sp_window.proofs.windows.Windows.get.Goals as goal

pub returns-in_err-record : goal.returns-in_err-record
returns-in_err-record c = λ events ended stands.
    let own : Stands (kept_of c.self.inside) events ended = subst (λ w. Stands w events ended) (sym c.self.view_is) stands in
    let none : slice_get c.self.inside.records.items (c.args.number - 1) ≡ None = search (rules, gets) in
    let at = gets_window (kept_of c.self.inside) events ended c.args.number c.self.invariant.compiled.windowed own c.if-number-eq0.false in
    c.from_residual.ensures ∙ ap (option_map shown_record) (sym none) ∙ subst (λ (w : Kept). option_map shown_record (slice_get c.self.inside.records.items (c.args.number - 1)) ≡ option_map shown (numbered_window w.plan events ended c.args.number)) c.self.view_is at

pub returns : goal.returns
returns c = λ events ended stands.
    let own : Stands (kept_of c.self.inside) events ended = subst (λ w. Stands w events ended) (sym c.self.view_is) stands in
    let some : slice_get c.self.inside.records.items (c.args.number - 1) ≡ Some c.in_ok-record.record.now = search (rules, gets) in
    let at = gets_window (kept_of c.self.inside) events ended c.args.number c.self.invariant.compiled.windowed own c.if-number-eq0.false in
    ap (option_map shown_record) (sym some) ∙ subst (λ (w : Kept). option_map shown_record (slice_get c.self.inside.records.items (c.args.number - 1)) ≡ option_map shown (numbered_window w.plan events ended c.args.number)) c.self.view_is at
