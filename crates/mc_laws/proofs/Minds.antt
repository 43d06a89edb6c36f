-- What mobs that move by their plans keep of a game, and the mobs with which a world begins.
pub mod Beginning
pub mod Mapped
pub mod Moving
