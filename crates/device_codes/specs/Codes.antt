-- Instructions and error numbers by their numbers.
use Rattle.std.specs.Prelude.{None, Option, Some, cond, ℕ, eqb}
use Rattle.device_codes.specs.declared.Instruction.{Instruction}
use Rattle.device_codes.specs.declared.Instruction.TheVariants.{Ping, Read, Write, RegWrite, Action, FactoryReset, Reboot, Status, SyncRead, SyncWrite, BulkRead, BulkWrite}
use Rattle.device_codes.specs.declared.ErrorNumber.{ErrorNumber}
use Rattle.device_codes.specs.declared.ErrorNumber.TheVariants.{Instruction as InstructionError, Checksum, DataRange, DataLength, DataLimit, Access}

-- [D2 G4]
unfoldable pub instruction_of : ℕ → Option Instruction
instruction_of code =
    cond (eqb code 0x01) (Some Ping)
    (cond (eqb code 0x02) (Some Read)
    (cond (eqb code 0x03) (Some Write)
    (cond (eqb code 0x04) (Some RegWrite)
    (cond (eqb code 0x05) (Some Action)
    (cond (eqb code 0x06) (Some FactoryReset)
    (cond (eqb code 0x08) (Some Reboot)
    (cond (eqb code 0x55) (Some Status)
    (cond (eqb code 0x82) (Some SyncRead)
    (cond (eqb code 0x83) (Some SyncWrite)
    (cond (eqb code 0x92) (Some BulkRead)
    (cond (eqb code 0x93) (Some BulkWrite) None)))))))))))

abbrev pub error_number : ErrorNumber → ℕ
error_number InstructionError = 0x02
error_number Checksum = 0x03
error_number DataRange = 0x04
error_number DataLength = 0x05
error_number DataLimit = 0x06
error_number Access = 0x07
