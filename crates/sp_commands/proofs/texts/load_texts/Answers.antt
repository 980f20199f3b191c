use Rattle.std.proofs.Common.{◌≡◌, ℕ, [], ◌∷◌, refl, subst, ap, Err, arith}
use Rattle.std.proofs.lemmas.List.Elements.{Contains-append_right}
use Rattle.sp_io.specs.Outside.{ToldFiles, Rose}
use Rattle.sp_load.specs.Places.{place_of, file, text_of}
use Rattle.sp_load.specs.Loads.{RefusesLoad}
use Rattle.sp_load.specs.declared.refusal.Refusal.TheVariants.{Read}
use Rattle.sp_commands.specs.Commands.{files_at}
use Rattle.sp_commands.proofs.TwoTexts.{file_refuses}
use Rattle.sp_commands.proofs.texts.load_texts.Goals as goal

pub returns-clause-refused : goal.returns-clause-refused
returns-clause-refused g c =
    let name = c.args.name.now in
    file_refuses (g.F.Files.held c.args.files.now) c.args.limit (place_of c.args.place) name (text_of c.in-Ok.query) c.in-Ok.ensures.text c.in-Err-load_file.refusal
    (subst (λ (held : ToldFiles). RefusesLoad held c.args.limit (file name) c.in-Err-load_file.refusal) c.text_at.ensures.held c.in-Err-load_file.ensures.refused)

pub returns-clause-fault : goal.returns-clause-fault
returns-clause-fault g c = λ is.
    let name = c.args.name.now in
    let read : c.in-Err-load_file.refusal ≡ Read = cc is in
    let rose = c.in-Err-load_file.ensures.fault (ap Err read) in
    let quiet = c.in-Ok.ensures.no_fault (λ e. cc) name in
    (name, Contains-append_right (files_at (place_of c.args.place)) (name ∷ []) name (0, omega arith, refl), subst (λ (n : ℕ). Rose n (g.F.Files.faults c.load_file.new.files name)) quiet rose)
