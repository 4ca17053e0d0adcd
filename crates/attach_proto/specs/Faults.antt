-- The numbers of the faults.
use Rattle.std.specs.Prelude.{ℕ}
use Rattle.attach_proto.specs.declared.fault.ProtoFault.{ProtoFault}
use Rattle.attach_proto.specs.declared.fault.ProtoFault.TheVariants.{BadKind, TooLong, BadPayload, WrongSide, NoMemory}
use Rattle.attach_proto.specs.declared.fault.WriteFault.{WriteFault}
use Rattle.attach_proto.specs.declared.fault.WriteFault.TheVariants as write

abbrev pub proto_number : ProtoFault → ℕ
proto_number BadKind = 1
proto_number TooLong = 2
proto_number BadPayload = 3
proto_number WrongSide = 4
proto_number NoMemory = 5

abbrev pub write_number : WriteFault → ℕ
write_number write.Unspellable = 1
write_number write.NoMemory = 2
