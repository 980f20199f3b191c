use Rattle.std.proofs.Common.{arith}
use Rattle.std.proofs.lemmas.Bool.Decides.{nat_tests}
use Rattle.std.specs.Prelude.{not}
use Rattle.std.specs.Str.{bytes_eq}
use Rattle.std.proofs.lemmas.List.Sums.{prefix_len-le-length}
use Rattle.sp_compile.proofs.lookup.text_number.Goals as goal

pub returns : goal.returns
returns c =
    let w = prefix_len-le-length (λ text. not (bytes_eq c.args.text.now text)) c.args.texts.now in
    grind (arith, nat_tests)
