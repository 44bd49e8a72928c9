pub mod Crc
