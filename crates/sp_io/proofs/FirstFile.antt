-- The first file of a name, among files in memory.
use Rattle.std.proofs.Common.{◌≡◌, ℕ, Bool, true, false, List, [], ◌∷◌, refl, Bor}
use Rattle.std.specs.Prelude.{String, string_bytes, bytes_eq, find, Option, Some, None, if◌then◌else◌}
use Rattle.std.specs.Option.{option_map}
use Rattle.std.specs.Global.{Vec, Global}
use Rattle.sp_io.specs.Outside.{first_file}
use Rattle.sp_io.specs.MemoryFiles.{named_bytes}

here_or_later : (here : Bool) (file : String Global × Vec ℕ) (later : Option (String Global × Vec ℕ)) (told : Option (List ℕ × List ℕ)) → option_map (λ file. file.1.items) later ≡ option_map (λ file. file.1) told → option_map (λ file. file.1.items) (if here then Some file else later) ≡ option_map (λ file. file.1) (if here then Some (string_bytes file.0, file.1.items) else told)
here_or_later true file later told same = refl
here_or_later false file later told same = same

-- the first file whose name's bytes are these has the bytes that are told of it
pub first_told : (name : List ℕ) (files : List (String Global × Vec ℕ)) → option_map (λ file. file.1.items) (find (λ file. bytes_eq (string_bytes file.0) name) files) ≡ first_file (named_bytes files) name
first_told name [] = refl
first_told name (file ∷ files) = here_or_later (bytes_eq (string_bytes file.0) name) file _ _ (first_told name files)

-- the bytes behind a reference to a found file
pub bytes_found : (found : Option (Bor (String Global × Vec ℕ))) → option_map (λ file. file.now.1.items) found ≡ option_map (λ file. file.1.items) (option_map (λ file. file.now) found)
bytes_found None = refl
bytes_found (Some file) = refl
