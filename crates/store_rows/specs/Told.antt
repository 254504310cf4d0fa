-- How an error of the database is reported: it blames no row.
use Rattle.sqlite.specs.declared.error.Error.{Error}
use Rattle.sqlite.specs.declared.error.Error.TheVariants.{SqliteFailure}
use Rattle.sqlite.specs.declared.error.ErrorCode.TheVariants.{OutOfMemory}
use Rattle.store_rows.specs.declared.error.ReadError.{ReadError}
use Rattle.store_rows.specs.declared.error.ReadError.TheVariants.{Memory, Fault}

abbrev pub read_error : Error → ReadError
read_error (SqliteFailure OutOfMemory) = Memory
read_error _ = Fault
