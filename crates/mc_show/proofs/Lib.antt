mod Packets
mod Ways
mod Records
mod Chunks
