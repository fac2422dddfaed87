-- The statuses as the process tells them.
use Rattle.std.specs.Prelude.{ℕ}
use Rattle.js_run.specs.declared.status.Status.{Status}
use Rattle.js_run.specs.declared.status.Status.TheVariants.{Ok, Refused, Usage, ReadFault, WriteFault, NoMemory, NotUtf8, TooLong}

abbrev pub code_of : Status → ℕ
code_of Ok = 0
code_of Refused = 1
code_of Usage = 2
code_of ReadFault = 3
code_of WriteFault = 4
code_of NoMemory = 5
code_of NotUtf8 = 6
code_of TooLong = 7
