-- Laws: digits, decimal and hexadecimal.
pub mod CountLaws
pub mod HexLaws
pub mod PutLaws
pub mod ReadLaws
