use Rattle.std.proofs.Common.{◌≡◌, ◌≢◌, ℕ, [], ◌∷◌, List, length, Ok, refl, sym, ◌∙◌, subst, ap, arith}
use Rattle.std.proofs.lemmas.Bool.Decides.{nat_tests}
use Rattle.sp_answer.specs.Written.{WritesText}
use Rattle.sp_answer.specs.declared.written.Written.TheVariants.{All, Failed}
use Rattle.sp_io.proofs.Grew.{grew_none}
use Rattle.sp_answer.proofs.Writing.{whole_text, cut_text}
use Rattle.sp_commands.proofs.output.write_one.Goals as goal

no_bytes : (l : List ℕ) → length l ≡ 0 → l ≡ []
no_bytes [] none = refl
no_bytes (b ∷ l) none = absurd (omega (arith, none))

pub returns-then-is_empty : goal.returns-then-is_empty
returns-then-is_empty g c =
    let none : length c.args.line.now ≡ 0 = grind (arith, nat_tests) in
    let state = g.K.Sink.state c.args.out.now in
    subst (λ (l : List ℕ). WritesText l state state (Ok All)) (sym (no_bytes c.args.line.now none)) (whole_text [] state state (grew_none state.held) refl)

pub returns-in-Ok : goal.returns-in-Ok
returns-in-Ok g c =
    subst (λ (l : List ℕ). WritesText l (g.K.Sink.state c.args.out.now) (g.K.Sink.state c.write_all.new.self) (Ok All)) c.as_bytes.ensures.value (whole_text _ _ _ c.in-Ok.ensures.ok c.in-Ok.ensures.no_fault)

pub returns-in-Err : goal.returns-in-Err
returns-in-Err g c =
    let some : length c.args.line.now ≢ 0 = grind (arith, nat_tests) in
    subst (λ (l : List ℕ). WritesText l (g.K.Sink.state c.args.out.now) (g.K.Sink.state c.write_all.new.self) (Ok Failed)) c.as_bytes.ensures.value
    (cut_text _ _ _ c.in-Err.ensures.err c.in-Err.ensures.fault (λ none. some (ap length (sym c.as_bytes.ensures.value) ∙ ap length none)))
