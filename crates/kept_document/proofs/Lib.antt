mod Checked
mod Counted
mod Sought
mod Texts
mod Trees
