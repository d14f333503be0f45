pub mod Held
pub mod Time
pub mod Files
pub mod Store
pub mod Walk
pub mod Text
pub mod Written
pub mod Export
pub mod Laws
pub use Rattle.pst_json.specs as pst_json
pub use Rattle.pst_tar.specs as pst_tar
