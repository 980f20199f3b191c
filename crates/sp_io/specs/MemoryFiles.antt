-- Files in memory.
use Rattle.std.specs.Prelude.{◌≡◌, ℕ, ◌+◌, ◌-◌, ◌^◌, List, map, min, Some, None, String, string_bytes}
use Rattle.std.specs.Global.{Vec, Global}
use Rattle.sp_io.specs.declared.memory_files.MemFiles.{MemFiles}
use Rattle.sp_io.specs.Outside.{ToldFiles, first_file}

-- the bytes of each name, with those of its file
abbrev pub named_bytes : List (String Global × Vec ℕ) → List (List ℕ × List ℕ)
named_bytes files = map (λ file. (string_bytes file.0, file.1.items)) files

-- the files as their callers see them
abbrev pub held_files : MemFiles → ToldFiles
held_files m = Some (named_bytes m.files.items)

-- how often a load failed, whatever its name
abbrev pub faults_of : MemFiles → List ℕ → ℕ
faults_of m name = m.failed

-- the numbers of the calls that are to fail
abbrev pub told_faults : MemFiles → List ℕ
told_faults m = m.fails.items

-- the number of the next call, from 1
abbrev pub next_call : MemFiles → ℕ
next_call m = min (m.calls + 1) (2 ^ 64 - 1)

-- no file has this name
abbrev pub IsMissing : MemFiles → List ℕ → Type 0
IsMissing m name = first_file (named_bytes m.files.items) name ≡ None
