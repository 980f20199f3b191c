use Rattle.std.proofs.Common.{◌≡◌, ℕ, List, length, Some, refl, sym, ◌∙◌, ap}
use Rattle.std.specs.List.{slice_get}
use Rattle.std.proofs.lemmas.Option.{slice_get_read}
use Rattle.sp_rows.specs.Plain.{piece}
use Rattle.sp_rows.proofs.Pieces.{piece_there, piece_past}
use Rattle.sp_rows.proofs.split.Fields.get.Goals as goal

pub returns-in-None : goal.returns-in-None
returns-in-None c = sym (piece_past c.args.self.now.row.now 0 c.args.self.now.nexts.now c.args.place c.in-None.ensures.lookup.3)

pub returns-in-Some : goal.returns-in-Some
returns-in-Some c =
    let nexts = c.args.self.now.nexts.now in
    let next = c.in-Some.next.now in
    let found = c.in-Some.ensures.lookup in
    let there : slice_get nexts c.args.place ≡ Some next = slice_get_read nexts (length nexts) c.args.place next refl found.3.0 found.1 in
    ap (λ (l : List ℕ). Some l) (c.piece.ensures ∙ ap (λ (start : ℕ). piece c.args.self.now.row.now start next) c.start_at.ensures) ∙ sym (piece_there c.args.self.now.row.now 0 nexts c.args.place next there)
