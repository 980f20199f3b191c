use Rattle.std.proofs.Common.{rules, tests, ◌≡◌, ap, ◌∙◌}
use Rattle.std.proofs.lemmas.Iterator.{YieldsList-from_slice}
use Rattle.std.proofs.lemmas.Iterator.Search.{find_from_yields_List}
use Rattle.std.specs.Prelude.{string_bytes, bytes_eq}
use Rattle.std.specs.Option.{option_map}
use Rattle.sp_io.proofs.FirstFile.{first_told, bytes_found}
use Rattle.sp_io.proofs.memory_files.first_of.Goals as goal

pub returns : goal.returns
returns c =
    let name = c.args.name.now in
    let found = find_from_yields_List (λ file. bytes_eq (string_bytes file.0) name) _ _ c.find.result c.find.ensures.ran (YieldsList-from_slice c.args.files.now cc) (λ x b q k. search (rules, tests)) in
    let mapped : option_map (λ bytes. bytes.now) c.map.result ≡ option_map (λ file. file.now.1.items) c.find.result = search (rules, tests) in
    mapped ∙ bytes_found c.find.result ∙ ap (option_map (λ file. file.1.items)) found ∙ first_told name c.args.files.now
