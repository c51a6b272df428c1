mod First
mod Pages
mod Rows
mod Texts
