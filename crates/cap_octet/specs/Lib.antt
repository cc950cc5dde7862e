-- Assigned numbers of link types, EtherTypes and protocols.
pub mod Assigned
-- Days of the calendar.
pub mod Calendar
-- Lists of checks, and the first that fails.
pub mod Checks
-- Dates of times.
pub mod Date
-- Reads and writes of devices.
pub mod Device
-- Numbers in decimal digits.
pub mod Digits
-- Faults and their texts.
pub mod Fault
-- The formats of captures.
pub mod Format
-- Laws of the definitions.
pub mod Laws
-- Link types.
pub mod Link
-- Places of fields in headers.
pub mod NetworkHeader
-- Numbers in bytes.
pub mod Number
-- Packets.
pub mod Packet
-- Seconds with a fraction.
pub mod Seconds
-- Devices over std's readers and writers.
pub mod Stream
-- Timestamps in text.
pub mod Timestamp
-- Writes that are counted.
pub mod Writer
-- What contracts see of a device.
pub mod Views
