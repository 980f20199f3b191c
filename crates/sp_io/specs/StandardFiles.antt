-- Files of the system: they tell no bytes.
use Rattle.std.specs.Prelude.{ℕ, List, None}
use Rattle.sp_io.specs.declared.standard_files.StdFiles.{StdFiles}
use Rattle.sp_io.specs.Outside.{ToldFiles}

-- the files as their callers see them
abbrev pub held_files : StdFiles → ToldFiles
held_files s = None

-- how often a load failed, whatever its name
abbrev pub faults_of : StdFiles → List ℕ → ℕ
faults_of s name = s.failed
