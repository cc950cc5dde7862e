-- The numbers of faults, and their texts in messages.
use Rattle.std.specs.Prelude.{ℕ, ◌==◌, if◌then◌else◌, List, codes, Option, Some, None}
use Rattle.cap_octet.specs.declared.fault.Fault.{Fault}

-- the number of a fault
abbrev pub fault_number : Fault → ℕ
fault_number Fault.NotACaptureFile = 1
fault_number Fault.Truncated = 2
fault_number Fault.BadVersion = 3
fault_number Fault.TooLong = 4
fault_number Fault.BadBlockLength = 5
fault_number Fault.BadByteOrderMagic = 6
fault_number Fault.UnknownInterface = 7
fault_number Fault.BadOption = 8
fault_number Fault.BadBody = 9
fault_number Fault.TimeOutOfRange = 10
fault_number Fault.TooManyInterfaces = 11
fault_number Fault.BadTimeResolution = 12
fault_number Fault.BadLinkTypeField = 13
fault_number Fault.ObsoletePacketBlock = 14
fault_number Fault.ReadFailed = 15
fault_number Fault.NoMemory = 16
fault_number Fault.WriteFailed = 17
fault_number Fault.LinkTypesDiffer = 18
fault_number Fault.LinkTypeNotFiltered = 19
fault_number Fault.TooManyPackets = 20
fault_number Fault.TooManyOutputInterfaces = 21

-- the fault with this number; None for any other number
abbrev pub numbered_fault : ℕ → Option Fault
numbered_fault n =
    if n == 1 then Some Fault.NotACaptureFile else (
    if n == 2 then Some Fault.Truncated else (
    if n == 3 then Some Fault.BadVersion else (
    if n == 4 then Some Fault.TooLong else (
    if n == 5 then Some Fault.BadBlockLength else (
    if n == 6 then Some Fault.BadByteOrderMagic else (
    if n == 7 then Some Fault.UnknownInterface else (
    if n == 8 then Some Fault.BadOption else (
    if n == 9 then Some Fault.BadBody else (
    if n == 10 then Some Fault.TimeOutOfRange else (
    if n == 11 then Some Fault.TooManyInterfaces else (
    if n == 12 then Some Fault.BadTimeResolution else (
    if n == 13 then Some Fault.BadLinkTypeField else (
    if n == 14 then Some Fault.ObsoletePacketBlock else (
    if n == 15 then Some Fault.ReadFailed else (
    if n == 16 then Some Fault.NoMemory else (
    if n == 17 then Some Fault.WriteFailed else (
    if n == 18 then Some Fault.LinkTypesDiffer else (
    if n == 19 then Some Fault.LinkTypeNotFiltered else (
    if n == 20 then Some Fault.TooManyPackets else (
    if n == 21 then Some Fault.TooManyOutputInterfaces else (
    None)))))))))))))))))))))

-- the words for a fault in messages
abbrev pub fault_text : Fault → List ℕ
fault_text Fault.NotACaptureFile = codes "not a capture file"
fault_text Fault.Truncated = codes "truncated"
fault_text Fault.BadVersion = codes "bad version"
fault_text Fault.TooLong = codes "too long"
fault_text Fault.BadBlockLength = codes "bad block length"
fault_text Fault.BadByteOrderMagic = codes "bad byte-order magic"
fault_text Fault.UnknownInterface = codes "unknown interface"
fault_text Fault.BadOption = codes "bad option"
fault_text Fault.BadBody = codes "bad body"
fault_text Fault.TimeOutOfRange = codes "time out of range"
fault_text Fault.TooManyInterfaces = codes "too many interfaces"
fault_text Fault.BadTimeResolution = codes "bad time resolution"
fault_text Fault.BadLinkTypeField = codes "bad link type field"
fault_text Fault.ObsoletePacketBlock = codes "obsolete packet block"
fault_text Fault.ReadFailed = codes "read failed"
fault_text Fault.NoMemory = codes "no memory"
fault_text Fault.WriteFailed = codes "write failed"
fault_text Fault.LinkTypesDiffer = codes "link types differ"
fault_text Fault.LinkTypeNotFiltered = codes "link type not filtered"
fault_text Fault.TooManyPackets = codes "too many packets"
fault_text Fault.TooManyOutputInterfaces = codes "too many output interfaces"
